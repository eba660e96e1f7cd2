use Rattle.std.proofs.Common.{refl}
use Rattle.dym_io.specs.Laws.{appended_both, cause_told_later, front_after}
use Rattle.dymelor_top.proofs.PassedOn.{first_passed, first_stopped, second_stopped, second_done}
use Rattle.dymelor_top.proofs.ObjectText.{part_pieces, part_shown, part_written}
use Rattle.dymelor_top.proofs.plain_order.write_run.Goals as goal

pub returns-in_err-write_heading : goal.returns-in_err-write_heading
returns-in_err-write_heading g c =
    let whole = part_pieces c.args.turn.now.object.heap.version c.args.part.now in
    first_stopped _ _ _ whole.0 whole.1 _ _ c.from_residual.ensures.1 c.in_err-write_heading.ensures

pub returns-in_err-run_and_write : goal.returns-in_err-run_and_write
returns-in_err-run_and_write g c =
    let before = g.W.Sink.output c.args.sink.now in
    let middle = g.W.Sink.output c.write_heading.new.sink in
    let after = g.W.Sink.output c.run_and_write.new.sink in
    let whole = part_shown c.args.part.now c.args.turn.now.object c.args.part.now.commands refl c.requires.quota c.requires.start in
    let done = c.in_ok-write_heading.ensures in
    let written = c.in_err-run_and_write.ensures.replies in
    first_passed _ _ _ _ whole _ _ c.in_err-run_and_write.field-0.0 c.from_residual-in_err-run_and_write.ensures.1
    (front_after before middle after _ _ done written.0) (cause_told_later _ before middle after _ done written.1)

pub returns-in_err-write_state : goal.returns-in_err-write_state
returns-in_err-write_state g c =
    let ran = c.in_ok-run_and_write.ensures in
    let whole = part_written c.args.part.now c.args.turn.now.object c.run_and_write.new.turn.object c.heap.result.now c.kept.result c.slots.result
    c.requires.quota c.requires.start ran.state ran.version c.heap.ensures.heap c.kept.ensures c.slots.ensures.slots in
    second_stopped _ _ _ _ whole _ _ _ c.from_residual-in_err-write_state.ensures.1
    (appended_both _ _ _ _ _ c.in_ok-write_heading.ensures ran.replies) c.in_err-write_state.ensures

pub returns : goal.returns
returns g c =
    let ran = c.in_ok-run_and_write.ensures in
    let whole = part_written c.args.part.now c.args.turn.now.object c.run_and_write.new.turn.object c.heap.result.now c.kept.result c.slots.result
    c.requires.quota c.requires.start ran.state ran.version c.heap.ensures.heap c.kept.ensures c.slots.ensures.slots in
    second_done _ _ _ _ whole _ _ (appended_both _ _ _ _ _ c.in_ok-write_heading.ensures ran.replies) c.in_ok-write_state.ensures
