use Rattle.std.proofs.Common.{arith, ◌≤◌, ◌/◌, max, ℕ, ◌≡◌}
use Rattle.dym_base.specs.Numbers.{per}
use Rattle.dym_heap.proofs.Sizes.{per_fits}
use Rattle.dym_heap.proofs.Emptied as emptied
use Rattle.dym_heap.proofs.shelf.Shelf.give_last.Goals as goal

small : (e n r : ℕ) → 5 ≤ e → r ≡ per e → n ≡ max (r / 8) 1 → n ≤ 256
small e n r low is_r is_n = let p = per_fits low in grind arith

pub shared_ref_as_front-shape_area : goal.shared_ref_as_front-shape_area
shared_ref_as_front-shape_area g c = small c.args.class.exp c.max.result c.per_area.result c.args.class.least c.per_area.ensures c.max.ensures

pub shape_area-requires-clause-area : goal.shape_area-requires-clause-area
shape_area-requires-clause-area g c = let n = c.areas-last.ensures in let some = c.requires in omega arith

pub shape_area-requires-clause-below : goal.shape_area-requires-clause-below
shape_area-requires-clause-below g c = λ i h. emptied.none_set c.max.result 256 i _ (small c.args.class.exp c.max.result c.per_area.result c.args.class.least c.per_area.ensures c.max.ensures) h

pub drop_area-requires : goal.drop_area-requires
drop_area-requires g c = emptied.emptied c.max.result 256 (small c.args.class.exp c.max.result c.per_area.result c.args.class.least c.per_area.ensures c.max.ensures) (let n = c.areas-last.ensures in let some = c.requires in omega arith) c.shape_area.ensures.same c.shape_area.ensures.shaped

pub returns-clause-dropped : goal.returns-clause-dropped
returns-clause-dropped g c = emptied.given c.max.result 256 (small c.args.class.exp c.max.result c.per_area.result c.args.class.least c.per_area.ensures c.max.ensures) (let n = c.areas-last.ensures in let some = c.requires in omega arith) c.shape_area.ensures.same c.shape_area.ensures.shaped c.drop_area.ensures.dropped

pub returns-clause-chunks : goal.returns-clause-chunks
returns-clause-chunks g c k within = emptied.stay c.max.result 256 (small c.args.class.exp c.max.result c.per_area.result c.args.class.least c.per_area.ensures c.max.ensures) (let n = c.areas-last.ensures in let some = c.requires in omega arith) c.shape_area.ensures.same c.shape_area.ensures.shaped c.drop_area.ensures.dropped k within (emptied.count_new c.max.result 256 (small c.args.class.exp c.max.result c.per_area.result c.args.class.least c.per_area.ensures c.max.ensures) (let n = c.areas-last.ensures in let some = c.requires in omega arith) c.shape_area.ensures.same c.shape_area.ensures.shaped c.drop_area.ensures.dropped (let n = c.shape_area.ensures.valid_shelf.classes in let high = c.args.class.most in omega arith))
