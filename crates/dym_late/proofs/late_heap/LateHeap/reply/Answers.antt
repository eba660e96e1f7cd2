use Rattle.std.proofs.Common.{◌<◌, length, ap, ◌∙◌, arith}
use Rattle.dym_late.specs.Meaning.{LateMeaning}
use Rattle.dym_late.proofs.Searches.{many_late}
use Rattle.dym_late.proofs.Wholes.{has_reply}
use Rattle.dym_late.proofs.late_heap.LateHeap.reply.Goals as goal

pub returns : goal.returns
returns g c =
    let count = ap (λ (m : LateMeaning). length m.events) c.self.view_is in
    let many = many_late c.self.inside.timeline.events.items in
    let within : c.args.k < length c.self.inside.timeline.events.items = omega (arith, count, many, c.requires.there) in
    has_reply c.self.inside.timeline.bound c.self.inside.timeline.events.items c.self.inside.timeline.order.items c.self.inside.timeline.heap c.self.inside.timeline.chain
    (c.self.invariant.whole (ap (λ (m : LateMeaning). m.broken) c.self.view_is ∙ c.requires.whole)) c.self.inside.broken c.args.self.now c.self.view_is c.args.k c.index.result.now within c.index.ensures
