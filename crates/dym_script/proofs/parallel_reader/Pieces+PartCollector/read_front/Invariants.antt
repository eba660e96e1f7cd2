use Rattle.std.proofs.Common.{◌≡◌, ◌+◌, ◌≤◌, ◌++◌, List, ℕ, length}
use Rattle.dym_base.specs.Lines.{lines_of}
use Rattle.dym_script.specs.Parts.{KeepsParts}
use Rattle.dym_script.specs.Scripts.{Reading, read_lines}
use Rattle.dym_script.specs.WholeScripts.{MayRead, StandsAt}
use Rattle.dym_script.proofs.parallel_reader.Pieces+PartCollector.read_front.Given as goal

abbrev pub invariant-loop-self : goal.invariant-loop-self
invariant-loop-self l = record {
  ready : MayRead KeepsParts l.self;
  short : l.number + length l.rest ≤ l.initial.self.number + length l.text;
  read : (old : Reading) → StandsAt KeepsParts l.initial.self old → (new : Reading) × StandsAt KeepsParts l.self new
      × ((others : List (List ℕ)) → read_lines old (l.initial.self.number + 1) (lines_of l.text ++ others) ≡ read_lines new (l.number + 1) (lines_of l.rest ++ others));
}

abbrev pub decreases-loop-self : goal.decreases-loop-self
decreases-loop-self l = length l.rest
