use Rattle.std.proofs.Common.{◌∙◌}
use Rattle.dym_io.specs.Laws.{appended_both, stopped_after}
use Rattle.dymelor_top.specs.LateParts.{arrivals_by}
use Rattle.dymelor_top.proofs.PassedOn.{first_stopped, second_stopped, second_done}
use Rattle.dymelor_top.proofs.LateText.{late_pieces, ones_there, part_by_heap, part_whole}
use Rattle.dymelor_top.proofs.late_run.write_run.Goals as goal

pub returns-in_err-write_heading : goal.returns-in_err-write_heading
returns-in_err-write_heading g c =
    let whole = late_pieces c.args.name.now c.args.late.now.heap.quota (arrivals_by c.args.acts.items) in
    first_stopped _ _ _ whole.0 whole.1 _ _ c.from_residual-in_err-write_heading.ensures.1 c.in_err-write_heading.ensures

pub write_lines-requires-clause-there : goal.write_lines-requires-clause-there
write_lines-requires-clause-there g c =
    ones_there c.args.late.now c.take_all.new.late c.args.name.now (arrivals_by c.args.acts.items) c.requires.events c.requires.bound c.in_ok-outcome.ensures.took
    c.deref.result.now (c.deref.ensures.value ∙ c.in_ok-outcome.ensures.outcome)

pub returns-in_err-write_lines : goal.returns-in_err-write_lines
returns-in_err-write_lines g c =
    let before = g.W.Sink.output c.args.sink.now in
    let middle = g.W.Sink.output c.write_heading.new.sink in
    let after = g.W.Sink.output c.write_lines.new.sink in
    let whole = part_by_heap c.args.late.now c.take_all.new.late c.args.name.now (arrivals_by c.args.acts.items) c.requires.events c.requires.bound
    c.in_ok-outcome.ensures.took c.deref.result.now (c.deref.ensures.value ∙ c.in_ok-outcome.ensures.outcome) in
    first_stopped _ _ _ _ whole _ _ c.from_residual-in_err-write_lines.ensures.1
    (stopped_after before middle after _ _ c.in_ok-write_heading.ensures c.in_err-write_lines.ensures)

pub returns-in_err-write_late_end : goal.returns-in_err-write_late_end
returns-in_err-write_late_end g c =
    let whole = part_whole c.args.late.now c.take_all.new.late c.args.name.now (arrivals_by c.args.acts.items) c.requires.events c.requires.bound
    c.in_ok-outcome.ensures.took c.deref.result.now (c.deref.ensures.value ∙ c.in_ok-outcome.ensures.outcome)
    c.heap.result.now c.replayed.result c.heap.ensures.late c.heap.ensures.heap c.replayed.ensures.replayed in
    second_stopped _ _ _ _ whole _ _ _ c.from_residual-in_err-write_late_end.ensures.1
    (appended_both _ _ _ _ _ c.in_ok-write_heading.ensures c.in_ok-write_lines.ensures) c.in_err-write_late_end.ensures

pub returns : goal.returns
returns g c =
    let whole = part_whole c.args.late.now c.take_all.new.late c.args.name.now (arrivals_by c.args.acts.items) c.requires.events c.requires.bound
    c.in_ok-outcome.ensures.took c.deref.result.now (c.deref.ensures.value ∙ c.in_ok-outcome.ensures.outcome)
    c.heap.result.now c.replayed.result c.heap.ensures.late c.heap.ensures.heap c.replayed.ensures.replayed in
    second_done _ _ _ _ whole _ _ (appended_both _ _ _ _ _ c.in_ok-write_heading.ensures c.in_ok-write_lines.ensures) c.in_ok-write_late_end.ensures
