use Rattle.std.proofs.Common.{◌≡◌, List, map, reverse, ◌∙◌, sym, ap, subst}
use Rattle.std.proofs.lemmas.List.{reverse-reverse}
use Rattle.dym_region.specs.declared.segment.SegmentId.{SegmentId}
use Rattle.dym_region.specs.Identity.{AreDistinct}
use Rattle.dym_region.specs.contracts.raw_segment.RawSegmentSegment.TheImpl.{ghosts}
use Rattle.dym_quota.proofs.Orders.{map-reverse, beginning, remainder}
use Rattle.dym_quota.proofs.queue_setup.stock_first.Goals as goal

-- turned round twice, the identities stand as they were
twice : {X : Type 0} (id : X → SegmentId) (xs ys : List X) → ys ≡ reverse xs → reverse (map id ys) ≡ map id xs
twice id xs ys is = ap (λ l. reverse (map id l)) is ∙ ap reverse (map-reverse id xs) ∙ reverse-reverse (map id xs)

pub stock_last-requires-clause-distinct : goal.stock_last-requires-clause-distinct
stock_last-requires-clause-distinct g c = subst AreDistinct (sym (twice ghosts.id c.args.segments.now.items c.reverse.new.self.items c.reverse.ensures.items)) c.requires.distinct

pub returns-clause-stocked : goal.returns-clause-stocked
returns-clause-stocked g c = beginning _ _ _ _ c.stock_last.ensures.stocked (c.stock_last.ensures.order ∙ twice ghosts.id c.args.segments.now.items c.reverse.new.self.items c.reverse.ensures.items)

pub returns-clause-aside : goal.returns-clause-aside
returns-clause-aside g c =
    ap (map ghosts.id) c.reverse-2.ensures.items ∙ map-reverse ghosts.id c.stock_last.new.segments.items
    ∙ remainder _ _ _ _ c.stock_last.ensures.stocked (c.stock_last.ensures.order ∙ twice ghosts.id c.args.segments.now.items c.reverse.new.self.items c.reverse.ensures.items)
