use Rattle.dym_base.specs.declared.command.Command.TheVariants.{Sum}
use Rattle.dym_heap.specs.Replies.{total_reply}
use Rattle.dym_object.proofs.Calls.{sum_stays, looked}
use Rattle.dym_object.proofs.object.Object.sum.Goals as goal

pub returns : goal.returns
returns g c =
    let o = c.self.inside in
    let t = looked c.steps_keep_whole.ensures o.heap o.chain o.ran c.args.self.now c.self.view_is c.self.invariant
    c.sum.result (total_reply c.sum.result) (Sum c.args.h) tt (sum_stays o.heap c.args.h) c.sum.ensures in
    record { reply = t.reply; step = t.step; refused = t.refused; whole = t.whole }

pub invariant_of-self : goal.invariant_of-self
invariant_of-self g c = (returns g c).whole
