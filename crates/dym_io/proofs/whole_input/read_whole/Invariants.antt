-- What was read so far was taken from the source, and each turn reads more.
use Rattle.std.proofs.Common.{◌-◌, vec_len}
use Rattle.dym_io.proofs.ReadSoFar.{ReadSoFar}
use Rattle.dym_io.proofs.whole_input.read_whole.Given as goal

abbrev pub invariant-pieces : goal.invariant-pieces
invariant-pieces g l =
    ReadSoFar l.limit (g.R.Source.left l.initial.source) (g.R.Source.left l.source) (g.R.Source.faults l.initial.source) (g.R.Source.faults l.source) (g.R.Source.goes_on l.source) l.bytes.items

abbrev pub decreases-pieces : goal.decreases-pieces
decreases-pieces g l = l.limit - vec_len l.bytes
