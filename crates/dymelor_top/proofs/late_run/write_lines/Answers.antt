use Rattle.std.proofs.Common.{subst}
use Rattle.dym_io.specs.Sink.{Stopped}
use Rattle.dym_io.specs.Laws.{writes_stopped, each_cut}
use Rattle.dymelor_top.specs.LateReport.{outcome_text}
use Rattle.dymelor_top.proofs.late_run.write_lines.Goals as goal

pub returns-in_err-write_late_line : goal.returns-in_err-write_late_line
returns-in_err-write_late_line g c =
    let start = g.W.Sink.output c.args.sink.now in
    let before = g.W.Sink.output c.loop-line.sink in
    let after = g.W.Sink.output c.write_late_line.new.sink in
    let late = c.args.late.now in
    writes_stopped start after _ _ c.from_residual.ensures.0
    (each_cut (outcome_text late.heap.quota late.events) c.args.outcome.now c.loop-line.line-index _ start before after c.loop-line-test.true c.loop-line.invariant
    (subst (Stopped before after) c.out_of.ensures c.in_err-write_late_line.ensures))
