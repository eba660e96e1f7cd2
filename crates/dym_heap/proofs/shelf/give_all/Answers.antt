use Rattle.std.proofs.Common.{arith, ◌≡◌, sym, subst, ◌∙◌, length}
use Rattle.dym_quota.specs.HeldIds.{IsHeld, GivesBack}
use Rattle.dym_heap.proofs.Owned.{last_owned, left_owned, owns_none}
use Rattle.dym_heap.proofs.shelf.give_all.Goals as goal

pub give-requires : goal.give-requires
give-requires g c =
    subst (IsHeld (g.S.Supply.held_ids c.loop-sized_area.supply)) (sym c.into_parts-segment.ensures.same) (last_owned _ _ _ _ c.loop-sized_area.invariant.owns c.in-Some.ensures.items)

pub loop-sized_area-preserved : goal.loop-sized_area-preserved
loop-sized_area-preserved g c = record {
  owns = left_owned _ _ _ _ _ c.loop-sized_area.invariant.owns c.in-Some.ensures.items (subst (GivesBack _ _) c.into_parts-segment.ensures.same c.give.ensures.given);
  quota = c.give.ensures.quota ∙ c.loop-sized_area.invariant.quota;
  origin = c.give.ensures.origin ∙ c.loop-sized_area.invariant.origin;
}

pub loop-sized_area-preserved-in-Some : goal.loop-sized_area-preserved-in-Some
loop-sized_area-preserved-in-Some g c = record {
  owns = left_owned _ _ _ _ _ c.loop-sized_area.invariant.owns c.in-Some.ensures.items (subst (GivesBack _ _) c.into_parts-segment.ensures.same c.give.ensures.given);
  quota = c.give.ensures.quota ∙ c.loop-sized_area.invariant.quota;
  origin = c.give.ensures.origin ∙ c.loop-sized_area.invariant.origin;
}

pub returns-clause-nothing_held : goal.returns-clause-nothing_held
returns-clause-nothing_held g c =
    let e = c.in_default.ensures.cases.0 in
    let none : length c.loop-sized_area.sized_areas.items ≡ 0 = omega arith in
    owns_none (g.S.Supply.held_ids c.loop-sized_area.supply) c.loop-sized_area.sized_areas.items c.loop-sized_area.invariant.owns none
