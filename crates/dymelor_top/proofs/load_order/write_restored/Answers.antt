use Rattle.dym_io.specs.Laws.{writes_cut, writes_after}
use Rattle.dym_report.specs.Orders.{end_text}
use Rattle.dymelor_top.proofs.load_order.write_restored.Goals as goal

pub returns-in_err-write_part-clause-written : goal.returns-in_err-write_part-clause-written
returns-in_err-write_part-clause-written g c = writes_cut _ _ _ end_text _ c.from_residual.ensures.0 c.in_err-write_part.ensures.written

pub returns-clause-written : goal.returns-clause-written
returns-clause-written g c = writes_after _ _ _ _ end_text _ c.in_ok-write_part.ensures.written c.write_end.ensures
