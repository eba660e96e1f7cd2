use Rattle.std.proofs.Common.{take, flat_map}
use Rattle.dym_io.specs.Sink.{Appended}
use Rattle.dymelor_top.specs.LateReport.{outcome_text}
use Rattle.dymelor_top.proofs.late_run.write_lines.Given as goal

abbrev pub invariant-loop-line : goal.invariant-loop-line
invariant-loop-line g l =
    Appended (g.W.Sink.output l.initial.sink) (g.W.Sink.output l.sink) (flat_map (outcome_text l.late.heap.quota l.late.events) (take l.line-index l.outcome))
