use Rattle.std.proofs.Common.{◌≡◌, ◌+◌, ◌≤◌, ◌++◌, List, ℕ, length}
use Rattle.dym_base.specs.Lines.{lines_of}
use Rattle.dym_script.specs.Scripts.{Reading, read_lines}
use Rattle.dym_script.specs.Readers.{GoesOn}
use Rattle.dym_script.specs.WholeScripts.{MayRead, StandsAt}
use Rattle.dym_script.proofs.pieces.Pieces.read_all.Given as goal

abbrev pub invariant-loop-rest : goal.invariant-loop-rest
invariant-loop-rest g l = record {
  ready : MayRead g.K.Keeper.keeps l.self;
  short : l.number + length l.rest ≤ l.initial.self.number + length l.text;
  grows : GoesOn l.initial.self.reader.objects.items l.self.reader.objects.items;
  read : (old : Reading) → StandsAt g.K.Keeper.keeps l.initial.self old → (new : Reading) × StandsAt g.K.Keeper.keeps l.self new
      × ((others : List (List ℕ)) → read_lines old (l.initial.self.number + 1) (lines_of l.text ++ others) ≡ read_lines new (l.number + 1) (lines_of l.rest ++ others));
}

abbrev pub decreases-loop-rest : goal.decreases-loop-rest
decreases-loop-rest g l = length l.rest
