use Rattle.std.proofs.Common.{All, subst, sym}
use Rattle.dym_script.specs.OwnCommands.{IsRunnable}
use Rattle.dymelor_top.proofs.PassedOn.{first_passed, second_stopped, second_done}
use Rattle.dymelor_top.proofs.PartFacts.{parts_run, report_of_parts}
use Rattle.dymelor_top.proofs.plain_order.write_report.Goals as goal

pub write_parts-requires : goal.write_parts-requires
write_parts-requires g c =
    let are = c.requires.made.1 in
    subst (All IsRunnable) (sym c.deref.ensures.value)
    (parts_run c.requires.made.0 c.args.script.now.kept.parts.items are.keeps.decls are.keeps.commands are.valid)

pub returns-in_err-write_parts : goal.returns-in_err-write_parts
returns-in_err-write_parts g c s are =
    first_passed _ _ _ _ (report_of_parts c.args.script.now s c.deref.result.now are c.deref.ensures.value) _ _
    c.in_err-write_parts.field-0.0 c.from_residual.ensures.1 c.in_err-write_parts.ensures.0 c.in_err-write_parts.ensures.1

pub returns-in_err-write_end : goal.returns-in_err-write_end
returns-in_err-write_end g c s are =
    second_stopped _ _ _ _ (report_of_parts c.args.script.now s c.deref.result.now are c.deref.ensures.value) _ _ _
    c.from_residual-in_err-write_end.ensures.1 c.in_ok-write_parts.ensures c.in_err-write_end.ensures

pub returns : goal.returns
returns g c s are =
    second_done _ _ _ _ (report_of_parts c.args.script.now s c.deref.result.now are c.deref.ensures.value) _ _
    c.in_ok-write_parts.ensures c.in_ok-write_end.ensures
