use Rattle.std.proofs.Common.{ap, ◌∙◌}
use Rattle.dym_late.specs.Meaning.{LateMeaning}
use Rattle.dym_late.proofs.Wholes.{is_late}
use Rattle.dym_late.proofs.late_heap.LateHeap.len.Goals as goal

pub returns-clause-late : goal.returns-clause-late
returns-clause-late g c =
    is_late c.self.inside.timeline.bound c.self.inside.timeline.events.items c.self.inside.timeline.order.items c.self.inside.timeline.heap c.self.inside.timeline.chain
    (c.self.invariant.whole (ap (λ (m : LateMeaning). m.broken) c.self.view_is ∙ c.requires)) c.self.inside.broken c.args.self.now c.self.view_is
