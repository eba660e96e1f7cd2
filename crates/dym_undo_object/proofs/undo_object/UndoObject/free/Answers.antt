use Rattle.dym_base.specs.declared.command.Command.TheVariants.{Free}
use Rattle.dym_heap.specs.Replies.{done_reply}
use Rattle.dym_undo_object.proofs.HeapChanges.{belongs_freed}
use Rattle.dym_undo_object.proofs.Calls.{called, belongs_new}
use Rattle.dym_undo_object.proofs.undo_object.UndoObject.free.Goals as goal

pub returns : goal.returns
returns g c =
    let o = c.self.inside in
    let e = c.free.ensures in
    let t = called o.heap o.undo.logs o.ran c.args.self.now c.self.view_is c.self.invariant.whole
    c.free.result (done_reply c.free.result) c.free.new.self c.keep_named.new.undo.logs (Free c.args.h) tt e.after e.sound e.reply e.refused c.keep_named.ensures.logs in
    record { reply = t.reply; step = t.step; refused = t.refused; whole = t.whole }

pub invariant_of-self : goal.invariant_of-self
invariant_of-self g c =
    let h = c.self.inside.heap in
    record {
      whole = (returns g c).whole;
      belongs = belongs_new h c.free.new.self (Free c.args.h) c.keep_named.new.undo c.free.ensures.after
          (belongs_freed h.version h.quota h.state c.args.h c.keep_named.new.undo c.keep_named.ensures.belongs c.keep_named.ensures.kept);
    }
