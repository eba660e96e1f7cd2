use Rattle.std.proofs.Common.{length}
use Rattle.dym_base.specs.declared.command.Command.TheVariants.{Read}
use Rattle.dym_heap.specs.Replies.{bytes_reply}
use Rattle.dym_object.proofs.Calls.{read_stays, looked}
use Rattle.dym_object.proofs.object.Object.read.Goals as goal

pub returns : goal.returns
returns g c =
    let o = c.self.inside in
    let t = looked c.steps_keep_whole.ensures o.heap o.chain o.ran c.args.self.now c.self.view_is c.self.invariant
    c.read.result (bytes_reply c.read.result c.read.new.out) (Read c.args.h c.args.at (length c.args.out.now)) tt (read_stays o.heap c.args.h c.args.at (length c.args.out.now)) c.read.ensures.reply in
    record { reply = t.reply; step = t.step; refused = t.refused; kept = c.read.ensures.refused; whole = t.whole }

pub invariant_of-self : goal.invariant_of-self
invariant_of-self g c = (returns g c).whole
