use Rattle.dym_base.specs.declared.command.Command.TheVariants.{Malloc}
use Rattle.dym_heap.specs.Replies.{chunk_reply}
use Rattle.dym_object.proofs.Calls.{called}
use Rattle.dym_object.proofs.object.Object.malloc.Goals as goal

pub returns : goal.returns
returns g c =
    let o = c.self.inside in
    let e = c.malloc.ensures in
    let t = called c.steps_keep_whole.ensures o.heap o.chain o.ran c.args.self.now c.self.view_is c.self.invariant
    c.malloc.result (chunk_reply c.malloc.result) c.malloc.new.self (Malloc c.args.len) tt e.after e.sound e.reply e.refused in
    record { reply = t.reply; step = t.step; refused = t.refused; whole = t.whole }

pub invariant_of-self : goal.invariant_of-self
invariant_of-self g c = (returns g c).whole
