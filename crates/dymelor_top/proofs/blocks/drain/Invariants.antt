use Rattle.std.proofs.Common.{◌+◌, ◌-◌}
use Rattle.dym_base.specs.declared.limits.TheConstants.{MOST_INPUT_BYTES}
use Rattle.dymelor_top.proofs.ReadBlocks.{DrainedSoFar}
use Rattle.dymelor_top.proofs.blocks.drain.Given as goal

abbrev pub invariant-pieces : goal.invariant-pieces
invariant-pieces g l =
    DrainedSoFar l.pulled (g.R.Source.left l.initial.source) (g.R.Source.left l.source) (g.R.Source.faults l.initial.source) (g.R.Source.faults l.source)
    (g.R.Source.goes_on l.source) l.all

abbrev pub decreases-pieces : goal.decreases-pieces
decreases-pieces g l = MOST_INPUT_BYTES + 1 - l.all
