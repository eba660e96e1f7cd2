use Rattle.std.proofs.Common.{[], subst}
use Rattle.dym_script.specs.WholeScripts.{GivesWhole}
use Rattle.dymelor_top.specs.Blocks.{TakesBytes}
use Rattle.dymelor_top.specs.Calls.{ReadsSource, TellsScript}
use Rattle.dymelor_top.specs.Headline.{Input}
use Rattle.dymelor_top.proofs.ReadBlocks.{script_made, script_failed}
use Rattle.dymelor_top.proofs.SourceReads.{passed}
use Rattle.dymelor_top.proofs.blocks.read_source.Goals as goal

pub returns-in_err-branch : goal.returns-in_err-branch
returns-in_err-branch g c =
    let old : Input = record { left = g.R.Source.left c.args.source.now; faults = g.R.Source.faults c.args.source.now } in
    let new : Input = record { left = g.R.Source.left c.read_blocks.new.source; faults = g.R.Source.faults c.read_blocks.new.source } in
    let is = c.in_ok-read_blocks.ensures in
    passed (ReadsSource (TellsScript g.K.Keeper.keeps) old new) _ _ c.from_residual-in_err-branch.ensures.1
    (script_failed g.K.Keeper.keeps old new is.bounded (is.count (λ other. absurd (cc))) c.in_err-branch.field-0.0
    (subst (λ r. TakesBytes [] old.left new.left (GivesWhole g.K.Keeper.keeps r)) c.in_err-branch.was is.outcome))

pub returns : goal.returns
returns g c =
    let old : Input = record { left = g.R.Source.left c.args.source.now; faults = g.R.Source.faults c.args.source.now } in
    let new : Input = record { left = g.R.Source.left c.read_blocks.new.source; faults = g.R.Source.faults c.read_blocks.new.source } in
    let is = c.in_ok-read_blocks.ensures in
    script_made g.K.Keeper.keeps old new is.bounded (is.count (λ other. absurd (cc))) c.in_ok-branch.field-0
    (subst (λ r. TakesBytes [] old.left new.left (GivesWhole g.K.Keeper.keeps r)) c.in_ok-branch.was is.outcome)
