use Rattle.std.proofs.Common.{◌∷◌, [], map, reverse, ◌∙◌, sym, append_assoc}
use Rattle.crossbeam_queue.specs.Passes.{view}
use Rattle.dym_region.specs.contracts.raw_segment.RawSegmentSegment.TheImpl.{ghosts}
use Rattle.dym_quota.proofs.Orders.{next_order, next_fresh}
use Rattle.dym_quota.proofs.queue_setup.stock_last.Goals as goal

pub stock-requires-clause-fresh : goal.stock-requires-clause-fresh
stock-requires-clause-fresh g c =
    let queued = (view c.loop-k.pass).stock in
    let x = c.take_last-segment.result in
    let rest = c.take_last-segment.new.self.items in
    next_fresh queued (reverse (map ghosts.id rest)) _ (ghosts.id x) c.requires.distinct
    (sym (append_assoc queued (ghosts.id x ∷ []) (reverse (map ghosts.id rest))) ∙ next_order ghosts.id queued c.loop-k.segments.items rest x c.take_last-segment.ensures.items ∙ c.loop-k.invariant.order)
