use Rattle.std.proofs.Common.{arith, sym, ap, subst, ◌∙◌}
use Rattle.dym_heap.proofs.ShelfGrows as grows
use Rattle.dym_heap.specs.SizedAreas.{SizedAreaMeaning}
use Rattle.dym_quota.specs.HeldIds.{IsHeld}
use Rattle.dym_heap.proofs.AreaBindings.{bound_removed}
use Rattle.dym_heap.proofs.shelf.Shelf.drop_area.Goals as goal

pub overflow_sub-last : goal.overflow_sub-last
overflow_sub-last g c = (grows.last_in c.self.view_is c.self.invariant.0 c.args.class.least c.args.class.most c.requires c.rank-rank.ensures.value).0

pub take_out-sized_area-requires : goal.take_out-sized_area-requires
take_out-sized_area-requires g c = let l = (grows.last_in c.self.view_is c.self.invariant.0 c.args.class.least c.args.class.most c.requires c.rank-rank.ensures.value).1 in omega arith

pub give-requires : goal.give-requires
give-requires g c = subst (IsHeld _) (sym (c.into_parts-segment.ensures.same ∙ ap (λ (p : SizedAreaMeaning). p.identity) c.take_out-sized_area.ensures.value)) (grows.last_held c.self.view_is c.self.invariant.0 c.args.class.least c.args.class.most c.requires c.rank-rank.result c.take_out-sized_area.result c.rank-rank.ensures.value)

pub keep_table-requires : goal.keep_table-requires
keep_table-requires g c h =
    grows.table_room_e c.self.view_is c.self.invariant.0 c.args.class.least c.args.class.most c.into_parts-segment.result.1 c.requires (c.into_parts-segment.ensures.version ∙ ap (λ (p : SizedAreaMeaning). p.version) c.take_out-sized_area.ensures.value ∙ grows.last_version c.self.view_is c.self.invariant.0 c.args.class.least c.args.class.most c.requires c.rank-rank.result c.take_out-sized_area.result c.rank-rank.ensures.value) h

pub shift_down-requires-clause-some : goal.shift_down-requires-clause-some
shift_down-requires-clause-some g c = grows.starts_some c.self.view_is c.self.invariant.0 c.args.class.least c.args.class.most c.requires c.rank-rank.result c.rank-rank.ensures.value

pub invariant_of-self : goal.invariant_of-self
invariant_of-self g c =
    let shelf = grows.roomy c.take_out-sized_area.ensures.capacity ((grows.dropped c.self.view_is c.self.invariant.0 c.args.class.least c.args.class.most c.into_parts-segment.result.1 _ c.rank-rank.ensures.value c.requires c.take_out-sized_area.ensures.value c.into_parts-segment.ensures.same c.into_parts-segment.ensures.version c.give.ensures.given c.give.ensures.quota c.give.ensures.origin c.keep_table.ensures.len c.keep_table.ensures.room c.shift_down.ensures c.take_out-sized_area.ensures.items).shelf) in
    let l = (grows.last_in c.self.view_is c.self.invariant.0 c.args.class.least c.args.class.most c.requires c.rank-rank.ensures.value).1 in
    (shelf, bound_removed _ _ c.take_out-sized_area.ensures.items l (λ j. g.S.Supply.binding (c.give.ensures.origin j) (c.give.ensures.quota j)) c.self.invariant.1)

pub returns : goal.returns
returns g c =
    let now = grows.dropped c.self.view_is c.self.invariant.0 c.args.class.least c.args.class.most c.into_parts-segment.result.1 _ c.rank-rank.ensures.value c.requires c.take_out-sized_area.ensures.value c.into_parts-segment.ensures.same c.into_parts-segment.ensures.version c.give.ensures.given c.give.ensures.quota c.give.ensures.origin c.keep_table.ensures.len c.keep_table.ensures.room c.shift_down.ensures c.take_out-sized_area.ensures.items in
    record { dropped = now.gives; fewer = now.fewer; valid_shelf = now.valid_shelf }
