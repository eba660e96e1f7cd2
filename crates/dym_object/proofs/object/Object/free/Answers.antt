use Rattle.dym_base.specs.declared.command.Command.TheVariants.{Free}
use Rattle.dym_heap.specs.Replies.{done_reply}
use Rattle.dym_object.proofs.Calls.{called}
use Rattle.dym_object.proofs.object.Object.free.Goals as goal

pub returns : goal.returns
returns g c =
    let o = c.self.inside in
    let e = c.free.ensures in
    let t = called c.steps_keep_whole.ensures o.heap o.chain o.ran c.args.self.now c.self.view_is c.self.invariant
    c.free.result (done_reply c.free.result) c.free.new.self (Free c.args.h) tt e.after e.sound e.reply e.refused in
    record { reply = t.reply; step = t.step; refused = t.refused; whole = t.whole }

pub invariant_of-self : goal.invariant_of-self
invariant_of-self g c = (returns g c).whole
