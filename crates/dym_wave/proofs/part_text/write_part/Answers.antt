use Rattle.std.proofs.Common.{◌≡◌, length, flat_map, subst}
use Rattle.dym_base.specs.Objects.{slots}
use Rattle.dym_io.specs.Sink.{Appended, Stopped}
use Rattle.dym_report.specs.Objects.{heading, object_text, state_text}
use Rattle.dym_report.specs.Replies.{reply_line}
use Rattle.dym_wave.specs.Views.{view_line_text}
use Rattle.dym_wave.proofs.Texts.{all_four, first_cut, second_cut, third_cut}
use Rattle.dym_wave.proofs.part_text.write_part.Goals as goal

pub returns-in_err-write_heading : goal.returns-in_err-write_heading
unfolding object_text
returns-in_err-write_heading g c =
    let o = c.args.object.now in
    first_cut _ (heading c.args.name.now) (flat_map reply_line c.args.replies.now.replies)
    (state_text o.heap.version o.heap.state.live (length o.chain.logs) (slots o.chain.logs)) (view_line_text c.args.line) _ _
    c.from_residual.ensures.0 c.in_err-write_heading.ensures

pub returns-in_err-write_replies : goal.returns-in_err-write_replies
unfolding object_text
returns-in_err-write_replies g c =
    let o = c.args.object.now in
    second_cut _ (heading c.args.name.now) (flat_map reply_line c.args.replies.now.replies)
    (state_text o.heap.version o.heap.state.live (length o.chain.logs) (slots o.chain.logs)) (view_line_text c.args.line) _ _ _
    c.from_residual-in_err-write_replies.ensures.0 c.in_ok-write_heading.ensures c.in_err-write_replies.ensures

pub returns-in_err-write_state : goal.returns-in_err-write_state
unfolding object_text
returns-in_err-write_state g c =
    let o = c.args.object.now in
    let is : state_text c.heap.result.now.version c.heap.result.now.state.live c.kept.result c.slots.result
    ≡ state_text o.heap.version o.heap.state.live (length o.chain.logs) (slots o.chain.logs) =
    λ i. state_text (c.heap.ensures.heap i).version (c.heap.ensures.heap i).state.live (c.kept.ensures i) (c.slots.ensures.slots i) in
    third_cut _ (heading c.args.name.now) (flat_map reply_line c.args.replies.now.replies)
    (state_text o.heap.version o.heap.state.live (length o.chain.logs) (slots o.chain.logs)) (view_line_text c.args.line) _ _ _ _
    c.from_residual-in_err-write_state.ensures.0 c.in_ok-write_heading.ensures c.in_ok-write_replies.ensures
    (subst (Stopped _ _) is c.in_err-write_state.ensures)

pub returns : goal.returns
unfolding object_text
returns g c =
    let o = c.args.object.now in
    let is : state_text c.heap.result.now.version c.heap.result.now.state.live c.kept.result c.slots.result
    ≡ state_text o.heap.version o.heap.state.live (length o.chain.logs) (slots o.chain.logs) =
    λ i. state_text (c.heap.ensures.heap i).version (c.heap.ensures.heap i).state.live (c.kept.ensures i) (c.slots.ensures.slots i) in
    all_four _ (heading c.args.name.now) (flat_map reply_line c.args.replies.now.replies)
    (state_text o.heap.version o.heap.state.live (length o.chain.logs) (slots o.chain.logs)) (view_line_text c.args.line) _ _ _ _ _
    c.in_ok-write_heading.ensures c.in_ok-write_replies.ensures (subst (Appended _ _) is c.in_ok-write_state.ensures) c.write_view_line.ensures
