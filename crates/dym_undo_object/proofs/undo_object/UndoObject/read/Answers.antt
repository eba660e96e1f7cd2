use Rattle.dym_base.specs.declared.command.Command.TheVariants.{Read}
use Rattle.dym_heap.specs.Replies.{bytes_reply}
use Rattle.dym_undo_object.proofs.Steps.{read_stays}
use Rattle.std.proofs.Common.{length}
use Rattle.dym_undo_object.proofs.Calls.{looked}
use Rattle.dym_undo_object.proofs.undo_object.UndoObject.read.Goals as goal

pub returns : goal.returns
returns g c =
    let o = c.self.inside in
    let t = looked o.heap o.undo.logs o.ran c.args.self.now c.self.view_is c.self.invariant.whole
    c.read.result (bytes_reply c.read.result c.read.new.out) (Read c.args.h c.args.at (length c.args.out.now)) tt
    (read_stays o.heap c.args.h c.args.at (length c.args.out.now)) c.read.ensures.reply in
    record { reply = t.reply; step = t.step; refused = t.refused; kept = c.read.ensures.refused; whole = t.whole }

pub invariant_of-self : goal.invariant_of-self
invariant_of-self g c = record { whole = (returns g c).whole; belongs = c.self.invariant.belongs }
