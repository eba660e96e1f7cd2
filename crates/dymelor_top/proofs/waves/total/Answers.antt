use Rattle.std.proofs.Common.{arith, ◌∙◌}
use Rattle.dymelor_top.proofs.PartFacts.{parts_run}
use Rattle.dymelor_top.proofs.SummaryFacts.{commands_of_parts, total_is}
use Rattle.dymelor_top.proofs.waves.total.Goals as goal

pub tally_waves-requires-clause-runnable : goal.tally_waves-requires-clause-runnable
tally_waves-requires-clause-runnable g c κs within =
    let are = c.requires.made.1 in
    parts_run c.requires.made.0 c.args.script.kept.parts.items are.keeps.decls are.keeps.commands are.valid

pub tally_waves-requires-clause-commands : goal.tally_waves-requires-clause-commands
tally_waves-requires-clause-commands g c κs within =
    let are = c.requires.made.1 in
    omega (arith, commands_of_parts c.args.script c.requires.made.0 are, are.valid.lines)

pub totals-requires : goal.totals-requires
totals-requires g c =
    let are = c.requires.made.1 in
    omega (arith, c.in_ok-tally.ensures.replies, commands_of_parts c.args.script c.requires.made.0 are, are.valid.lines)

pub returns : goal.returns
returns g c s are =
    c.totals.ensures ∙ total_is c.args.script s c.in_ok-tally.tally c.len-objects.result are c.in_ok-tally.ensures.counted c.in_ok-tally.ensures.replies
    (omega (arith, c.len-objects.ensures))
