use Rattle.dym_base.specs.declared.command.Command.TheVariants.{Follow}
use Rattle.dym_heap.specs.Replies.{found_reply}
use Rattle.dym_undo_object.proofs.Steps.{follow_stays}
use Rattle.dym_undo_object.proofs.Calls.{looked}
use Rattle.dym_undo_object.proofs.undo_object.UndoObject.follow.Goals as goal

pub returns : goal.returns
returns g c =
    let o = c.self.inside in
    let t = looked o.heap o.undo.logs o.ran c.args.self.now c.self.view_is c.self.invariant.whole
    c.follow.result (found_reply c.follow.result) (Follow c.args.h c.args.at) tt (follow_stays o.heap c.args.h c.args.at) c.follow.ensures in
    record { reply = t.reply; step = t.step; refused = t.refused; whole = t.whole }

pub invariant_of-self : goal.invariant_of-self
invariant_of-self g c = record { whole = (returns g c).whole; belongs = c.self.invariant.belongs }
