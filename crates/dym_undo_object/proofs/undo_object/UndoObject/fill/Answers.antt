use Rattle.dym_base.specs.declared.command.Command.TheVariants.{Fill}
use Rattle.dym_heap.specs.Replies.{done_reply}
use Rattle.std.proofs.Common.{replicate}
use Rattle.dym_base.specs.HeapStep.{key}
use Rattle.dym_undo_object.proofs.HeapChanges.{writes, belongs_after}
use Rattle.dym_undo_object.proofs.Steps.{same_ids}
use Rattle.dym_undo_object.proofs.Calls.{called_in_place, belongs_new}
use Rattle.dym_undo_object.proofs.undo_object.UndoObject.fill.Goals as goal

pub returns : goal.returns
returns g c =
    let o = c.self.inside in
    let e = c.fill.ensures in
    let t = called_in_place o.heap o.undo.logs o.ran c.args.self.now c.self.view_is c.self.invariant.whole
    c.fill.result (done_reply c.fill.result) c.fill.new.self c.keep.new.self.logs (Fill c.args.h c.args.at c.args.len c.args.byte) tt e.after e.sound e.reply e.refused
    c.keep.ensures.logs in
    record { reply = t.reply; step = t.step; refused = t.refused; whole = t.whole }

pub invariant_of-self : goal.invariant_of-self
invariant_of-self g c =
    let h = c.self.inside.heap in
    let after = belongs_after h.version h.quota (key c.args.h) h.state _ c.keep.new.self c.keep.ensures.belongs c.keep.ensures.kept
    (writes h.state c.args.h c.args.at (replicate c.args.len c.args.byte)) in
    record {
      whole = (returns g c).whole;
      belongs = belongs_new h c.fill.new.self (Fill c.args.h c.args.at c.args.len c.args.byte) c.keep.new.self
          (same_ids h c.fill.new.self (Fill c.args.h c.args.at c.args.len c.args.byte) c.fill.ensures.after) after;
    }
