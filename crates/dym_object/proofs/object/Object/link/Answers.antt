use Rattle.dym_base.specs.declared.command.Command.TheVariants.{Link}
use Rattle.dym_heap.specs.Replies.{done_reply}
use Rattle.dym_object.proofs.Calls.{called_in_place}
use Rattle.dym_object.proofs.object.Object.link.Goals as goal

pub returns : goal.returns
returns g c =
    let o = c.self.inside in
    let e = c.link.ensures in
    let t = called_in_place c.steps_keep_whole.ensures o.heap o.chain o.ran c.args.self.now c.self.view_is c.self.invariant
    c.link.result (done_reply c.link.result) c.link.new.self (Link c.args.h c.args.at c.args.to) tt e.after e.sound e.reply e.refused in
    record { reply = t.reply; step = t.step; refused = t.refused; whole = t.whole }

pub invariant_of-self : goal.invariant_of-self
invariant_of-self g c = (returns g c).whole
