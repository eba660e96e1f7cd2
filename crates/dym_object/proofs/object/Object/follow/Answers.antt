use Rattle.dym_base.specs.declared.command.Command.TheVariants.{Follow}
use Rattle.dym_heap.specs.Replies.{found_reply}
use Rattle.dym_object.proofs.Calls.{follow_stays, looked}
use Rattle.dym_object.proofs.object.Object.follow.Goals as goal

pub returns : goal.returns
returns g c =
    let o = c.self.inside in
    let t = looked c.steps_keep_whole.ensures o.heap o.chain o.ran c.args.self.now c.self.view_is c.self.invariant
    c.follow.result (found_reply c.follow.result) (Follow c.args.h c.args.at) tt (follow_stays o.heap c.args.h c.args.at) c.follow.ensures in
    record { reply = t.reply; step = t.step; refused = t.refused; whole = t.whole }

pub invariant_of-self : goal.invariant_of-self
invariant_of-self g c = (returns g c).whole
