use Rattle.dym_base.specs.declared.command.Command.TheVariants.{Realloc}
use Rattle.dym_heap.specs.Replies.{moved_reply}
use Rattle.dym_object.proofs.Calls.{called}
use Rattle.dym_object.proofs.object.Object.realloc.Goals as goal

pub returns : goal.returns
returns g c =
    let o = c.self.inside in
    let e = c.realloc.ensures in
    let t = called c.steps_keep_whole.ensures o.heap o.chain o.ran c.args.self.now c.self.view_is c.self.invariant
    c.realloc.result (moved_reply c.realloc.result) c.realloc.new.self (Realloc c.args.h c.args.len) tt e.after e.sound e.reply e.refused in
    record { reply = t.reply; step = t.step; refused = t.refused; whole = t.whole }

pub invariant_of-self : goal.invariant_of-self
invariant_of-self g c = (returns g c).whole
