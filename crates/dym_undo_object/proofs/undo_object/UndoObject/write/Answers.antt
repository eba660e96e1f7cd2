use Rattle.dym_base.specs.declared.command.Command.TheVariants.{Write}
use Rattle.dym_heap.specs.Replies.{done_reply}
use Rattle.dym_base.specs.HeapStep.{key}
use Rattle.dym_undo_object.proofs.HeapChanges.{writes, belongs_after}
use Rattle.dym_undo_object.proofs.Steps.{same_ids}
use Rattle.dym_undo_object.proofs.Calls.{called_in_place, belongs_new}
use Rattle.dym_undo_object.proofs.undo_object.UndoObject.write.Goals as goal

pub returns : goal.returns
returns g c =
    let o = c.self.inside in
    let e = c.write.ensures in
    let t = called_in_place o.heap o.undo.logs o.ran c.args.self.now c.self.view_is c.self.invariant.whole
    c.write.result (done_reply c.write.result) c.write.new.self c.keep.new.self.logs (Write c.args.h c.args.at c.args.bytes.now) tt e.after e.sound e.reply e.refused
    c.keep.ensures.logs in
    record { reply = t.reply; step = t.step; refused = t.refused; whole = t.whole }

pub invariant_of-self : goal.invariant_of-self
invariant_of-self g c =
    let h = c.self.inside.heap in
    let after = belongs_after h.version h.quota (key c.args.h) h.state _ c.keep.new.self c.keep.ensures.belongs c.keep.ensures.kept
    (writes h.state c.args.h c.args.at c.args.bytes.now) in
    record {
      whole = (returns g c).whole;
      belongs = belongs_new h c.write.new.self (Write c.args.h c.args.at c.args.bytes.now) c.keep.new.self
          (same_ids h c.write.new.self (Write c.args.h c.args.at c.args.bytes.now) c.write.ensures.after) after;
    }
