use Rattle.dym_base.specs.declared.command.Command.TheVariants.{Sum}
use Rattle.dym_heap.specs.Replies.{total_reply}
use Rattle.dym_undo_object.proofs.Steps.{sum_stays}
use Rattle.dym_undo_object.proofs.Calls.{looked}
use Rattle.dym_undo_object.proofs.undo_object.UndoObject.sum.Goals as goal

pub returns : goal.returns
returns g c =
    let o = c.self.inside in
    let t = looked o.heap o.undo.logs o.ran c.args.self.now c.self.view_is c.self.invariant.whole
    c.sum.result (total_reply c.sum.result) (Sum c.args.h) tt (sum_stays o.heap c.args.h) c.sum.ensures in
    record { reply = t.reply; step = t.step; refused = t.refused; whole = t.whole }

pub invariant_of-self : goal.invariant_of-self
invariant_of-self g c = record { whole = (returns g c).whole; belongs = c.self.invariant.belongs }
