use Rattle.std.proofs.Common.{arith, ap, refl}
use Rattle.dym_heap.proofs.ShelfGrows as grows
use Rattle.dym_heap.specs.SizedAreas.{SizedAreaMeaning}
use Rattle.dym_heap.proofs.AreaBindings.{bound_made, bound_inserted, next_free}
use Rattle.dym_heap.proofs.shelf.Shelf.add_area.Goals as goal

pub take-segment-requires-clause-ordinal : goal.take-segment-requires-clause-ordinal
take-segment-requires-clause-ordinal g c =
    let end = grows.end_in c.self.view_is c.self.invariant.0 c.args.class.least c.args.class.most c.rank-rank.ensures.value in
    let less = grows.below_quota c.self.view_is c.self.invariant.0 c.args.class.least c.args.class.most c.requires in
    omega arith

pub take-segment-requires-clause-free : goal.take-segment-requires-clause-free
take-segment-requires-clause-free g c =
    let less = grows.below_quota c.self.view_is c.self.invariant.0 c.args.class.least c.args.class.most c.requires in
    next_free _ c.rank-rank.result (g.S.Supply.binding_apart _ _) c.self.invariant.0 c.self.invariant.1 (let k = c.rank-rank.ensures.value in let high = c.args.class.most in omega arith) less

pub put_in-requires-clause-within : goal.put_in-requires-clause-within
put_in-requires-clause-within g c = let l = grows.end_in c.self.view_is c.self.invariant.0 c.args.class.least c.args.class.most c.rank-rank.ensures.value in omega arith

pub put_in-requires-clause-room : goal.put_in-requires-clause-room
put_in-requires-clause-room g c = (let l = grows.room_in c.self.view_is c.self.invariant.0 c.args.class.least c.args.class.most c.requires in omega arith)

pub shift_up-requires-clause-small : goal.shift_up-requires-clause-small
shift_up-requires-clause-small g c = grows.starts_small c.self.view_is c.self.invariant.0 c.args.class.least c.args.class.most

pub invariant_of-self : goal.invariant_of-self
invariant_of-self g c =
    let shelf = (grows.grown c.self.view_is c.self.invariant.0 c.args.class.least c.args.class.most c.take_table-lengths.result _ _ c.rank-rank.ensures.value c.requires c.take_table-lengths.ensures.len c.new-sized_area.ensures.made c.new-sized_area.ensures.valid refl
    c.take-segment.ensures.taken c.take-segment.ensures.quota c.take-segment.ensures.origin c.shift_up.ensures c.put_in.ensures.capacity c.take_table-lengths.ensures.room
    c.put_in.ensures.items).shelf in
    let l = grows.end_in c.self.view_is c.self.invariant.0 c.args.class.least c.args.class.most c.rank-rank.ensures.value in
    let made = c.new-sized_area.ensures.made in
    let new = bound_made _ c.new-sized_area.result c.rank-rank.ensures.value (ap (λ (p : SizedAreaMeaning). p.exponent) made) (ap (λ (p : SizedAreaMeaning). p.ordinal) made) (ap (λ (p : SizedAreaMeaning). p.identity) made) c.take-segment.ensures.is_bound in
    (shelf, bound_inserted _ _ _ c.put_in.ensures.items l new (λ j. g.S.Supply.binding (c.take-segment.ensures.origin j) (c.take-segment.ensures.quota j)) c.self.invariant.1)

pub returns : goal.returns
returns g c =
    let now =
    grows.grown c.self.view_is c.self.invariant.0 c.args.class.least c.args.class.most c.take_table-lengths.result _ _ c.rank-rank.ensures.value c.requires c.take_table-lengths.ensures.len c.new-sized_area.ensures.made c.new-sized_area.ensures.valid refl
    c.take-segment.ensures.taken c.take-segment.ensures.quota c.take-segment.ensures.origin c.shift_up.ensures c.put_in.ensures.capacity c.take_table-lengths.ensures.room
    c.put_in.ensures.items in
    record { added = now.gives; valid_shelf = now.valid_shelf }
