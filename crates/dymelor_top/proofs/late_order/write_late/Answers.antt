use Rattle.dym_script.specs.Late.{late_said}
use Rattle.dymelor_top.proofs.PassedOn.{first_passed, second_stopped, second_done}
use Rattle.dymelor_top.proofs.LatePartFacts.{parts_run, report_of_late}
use Rattle.dymelor_top.proofs.late_order.write_late.Goals as goal

pub write_late_parts-requires : goal.write_late_parts-requires
write_late_parts-requires g c = parts_run c.in_ok-parts.parts.items (late_said c.args.script) c.in_ok-parts.ensures c.requires

pub returns-in_err-write_late_parts : goal.returns-in_err-write_late_parts
returns-in_err-write_late_parts g c =
    first_passed _ _ _ _ (report_of_late c.in_ok-parts.parts.items (late_said c.args.script) c.in_ok-parts.ensures) _ _
    c.in_err-write_late_parts.field-0.0 c.from_residual-in_err-write_late_parts.ensures.1
    c.in_err-write_late_parts.ensures.0 c.in_err-write_late_parts.ensures.1

pub returns-in_err-write_end : goal.returns-in_err-write_end
returns-in_err-write_end g c =
    second_stopped _ _ _ _ (report_of_late c.in_ok-parts.parts.items (late_said c.args.script) c.in_ok-parts.ensures) _ _ _
    c.from_residual-in_err-write_end.ensures.1 c.in_ok-write_late_parts.ensures c.in_err-write_end.ensures

pub returns : goal.returns
returns g c =
    second_done _ _ _ _ (report_of_late c.in_ok-parts.parts.items (late_said c.args.script) c.in_ok-parts.ensures) _ _
    c.in_ok-write_late_parts.ensures c.in_ok-write_end.ensures
