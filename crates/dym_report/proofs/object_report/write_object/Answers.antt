use Rattle.std.proofs.Common.{flat_map, subst, sym}
use Rattle.dym_io.specs.Sink.{Stopped}
use Rattle.dym_io.specs.Laws.{writes_stopped}
use Rattle.dym_report.specs.Objects.{heading, state_text}
use Rattle.dym_report.specs.Replies.{reply_line}
use Rattle.dym_report.proofs.ObjectParts.{object_is, cut_first, cut_second, third_ends_as}
use Rattle.dym_report.proofs.object_report.write_object.Goals as goal

pub returns-in_err-write_heading : goal.returns-in_err-write_heading
returns-in_err-write_heading g c =
    let whole = object_is c.args.heap.now.version c.args.name.now c.args.replies.now c.args.heap.now.state.live c.args.kept c.args.slots in
    let rest = state_text c.args.heap.now.version c.args.heap.now.state.live c.args.kept c.args.slots in
    writes_stopped _ _ _ _ c.from_residual.ensures.0
    (subst (Stopped _ _) (sym whole) (cut_first _ _ (heading c.args.name.now) (flat_map reply_line c.args.replies.now) rest c.in_err-write_heading.ensures))

pub returns-in_err-write_replies : goal.returns-in_err-write_replies
returns-in_err-write_replies g c =
    let whole = object_is c.args.heap.now.version c.args.name.now c.args.replies.now c.args.heap.now.state.live c.args.kept c.args.slots in
    let rest = state_text c.args.heap.now.version c.args.heap.now.state.live c.args.kept c.args.slots in
    writes_stopped _ _ _ _ c.from_residual-in_err-write_replies.ensures.0
    (subst (Stopped _ _) (sym whole)
    (cut_second _ _ _ (heading c.args.name.now) (flat_map reply_line c.args.replies.now) rest c.in_ok-write_heading.ensures c.in_err-write_replies.ensures))

pub returns : goal.returns
returns g c =
    let whole = object_is c.args.heap.now.version c.args.name.now c.args.replies.now c.args.heap.now.state.live c.args.kept c.args.slots in
    let rest = state_text c.args.heap.now.version c.args.heap.now.state.live c.args.kept c.args.slots in
    third_ends_as _ _ _ _ _ (heading c.args.name.now) (flat_map reply_line c.args.replies.now) rest _ whole c.in_ok-write_heading.ensures
    c.in_ok-write_replies.ensures c.write_state.ensures
