use Rattle.std.proofs.Common.{◌≡◌, ◌+◌, ◌≤◌, ◌++◌, List, ℕ, length, drop, sum_by, Ok, Bor}
use Rattle.dym_script.specs.Parts.{KeepsParts}
use Rattle.dym_script.specs.Pieces.{ReadsFront}
use Rattle.dym_script.specs.Readers.{GoesOn}
use Rattle.dym_script.specs.WholeScripts.{MayRead, StandsAt}
use Rattle.dym_script.proofs.AheadTexts.{all_lines}
use Rattle.dym_script.proofs.parallel_reader.Pieces+PartCollector.take_all.Given as goal

abbrev bytes_of : List (Bor (List ℕ)) → ℕ
bytes_of parts = sum_by (λ (part : Bor (List ℕ)). length part.now) parts

abbrev pub invariant-loop-ahead : goal.invariant-loop-ahead
invariant-loop-ahead l = record {
  place : l.place ≡ length l.yielded;
  all : l.fn.all.items ≡ l.yielded ++ l.ahead-iterator.rest.items;
  ready : MayRead KeepsParts l.self;
  goes : GoesOn l.initial.self.reader.objects.items l.self.reader.objects.items;
  short : l.self.number + bytes_of (drop l.place l.fn.parts.items) ≤ l.initial.self.number + bytes_of l.fn.parts.items;
  read : ReadsFront
      (StandsAt KeepsParts l.initial.self) (StandsAt KeepsParts l.self) l.initial.self.number l.self.number (all_lines l.fn.parts.items)
      (all_lines (drop l.place l.fn.parts.items)) (Ok tt);
}
