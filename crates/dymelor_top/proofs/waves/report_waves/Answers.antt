use Rattle.dymelor_top.proofs.PassedOn.{first_passed, second_stopped, second_done}
use Rattle.dymelor_top.proofs.PartFacts.{parts_run, told_of_parts}
use Rattle.dymelor_top.proofs.waves.report_waves.Goals as goal

pub write_waves-requires-clause-runnable : goal.write_waves-requires-clause-runnable
write_waves-requires-clause-runnable g c κs within =
    let are = c.requires.made.1 in
    parts_run c.requires.made.0 c.args.script.kept.parts.items are.keeps.decls are.keeps.commands are.valid

pub returns-in_err-write_waves : goal.returns-in_err-write_waves
returns-in_err-write_waves g c s are =
    first_passed _ _ _ _ (told_of_parts c.args.views c.args.script s are) _ _
    c.in_err-write_waves.field-0.0 c.from_residual.ensures.1 c.in_err-write_waves.ensures.0 c.in_err-write_waves.ensures.1

pub returns-in_err-write_end : goal.returns-in_err-write_end
returns-in_err-write_end g c s are =
    second_stopped _ _ _ _ (told_of_parts c.args.views c.args.script s are) _ _ _
    c.from_residual-in_err-write_end.ensures.1 c.in_ok-write_waves.ensures c.in_err-write_end.ensures

pub returns : goal.returns
returns g c s are =
    second_done _ _ _ _ (told_of_parts c.args.views c.args.script s are) _ _ c.in_ok-write_waves.ensures c.in_ok-write_end.ensures
