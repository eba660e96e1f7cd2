use Rattle.std.proofs.Common.{◌-◌, ◌≤◌, take}
use Rattle.dym_base.specs.declared.limits.TheConstants.{MOST_INPUT_BYTES, MOST_LINE_BYTES}
use Rattle.dym_script.specs.WholeScripts.{TookBy}
use Rattle.dymelor_top.proofs.ReadBlocks.{ReadSoFar}
use Rattle.dymelor_top.proofs.blocks.read_blocks.Given as goal

abbrev pub invariant-pieces : goal.invariant-pieces
invariant-pieces g l = record {
  short : l.left ≤ MOST_LINE_BYTES;
  more : g.R.Source.goes_on l.source;
  read : ReadSoFar (g.R.Source.left l.initial.source) (g.R.Source.left l.source) (g.R.Source.faults l.initial.source) (g.R.Source.faults l.source)
      (TookBy g.K.Keeper.keeps l.script) (take l.left l.block) l.pulled;
}

abbrev pub decreases-pieces : goal.decreases-pieces
decreases-pieces g l = MOST_INPUT_BYTES - l.pulled
