use Rattle.std.proofs.Common.{arith}
use Rattle.dym_heap.proofs.ShelfLoads as loads
use Rattle.dym_heap.proofs.ShelfCalls as calls
use Rattle.dym_heap.proofs.AreaBindings.{bound_kept}
use Rattle.dym_heap.proofs.shelf.Shelf.shape_area.Goals as goal

pub overflow_add-self-inside : goal.overflow_add-self-inside
overflow_add-self-inside g c = let l = calls.place_in c.self.view_is c.self.invariant.0 c.args.class.least c.args.class.most c.rank-rank.ensures.value (calls.count_in c.self.view_is c.self.invariant.0 c.args.class.least c.args.class.most c.rank-rank.ensures.value c.requires.area) in let few = calls.few_s c.self.view_is c.self.invariant.0 in omega arith

pub index_mut-sized_area-requires : goal.index_mut-sized_area-requires
index_mut-sized_area-requires g c = let l = calls.place_in c.self.view_is c.self.invariant.0 c.args.class.least c.args.class.most c.rank-rank.ensures.value (calls.count_in c.self.view_is c.self.invariant.0 c.args.class.least c.args.class.most c.rank-rank.ensures.value c.requires.area) in omega arith

pub shape-requires-clause-len : goal.shape-requires-clause-len
shape-requires-clause-len g c = loads.len_q c.self.view_is c.self.invariant.0 c.args.class.least c.args.class.most c.rank-rank.ensures.value (calls.count_in c.self.view_is c.self.invariant.0 c.args.class.least c.args.class.most c.rank-rank.ensures.value c.requires.area) c.index_mut-sized_area.ensures.value _ c.requires.len

pub shape-requires-clause-below : goal.shape-requires-clause-below
shape-requires-clause-below g c = λ i h. loads.below_q c.self.view_is c.self.invariant.0 c.args.class.least c.args.class.most c.rank-rank.ensures.value (calls.count_in c.self.view_is c.self.invariant.0 c.args.class.least c.args.class.most c.rank-rank.ensures.value c.requires.area) c.index_mut-sized_area.ensures.value i (c.requires.below i h)

pub set_mark-requires-clause-rank : goal.set_mark-requires-clause-rank
set_mark-requires-clause-rank g c = calls.full_in c.self.view_is c.self.invariant.0 c.args.class.least c.args.class.most c.rank-rank.ensures.value

pub set_mark-requires-clause-ordinal : goal.set_mark-requires-clause-ordinal
set_mark-requires-clause-ordinal g c = let l = calls.few_o c.self.view_is c.self.invariant.0 (calls.stands_a c.self.view_is c.self.invariant.0 c.args.class.least c.args.class.most c.rank-rank.ensures.value (calls.count_in c.self.view_is c.self.invariant.0 c.args.class.least c.args.class.most c.rank-rank.ensures.value c.requires.area)) in omega arith

pub invariant_of-self : goal.invariant_of-self
invariant_of-self g c = bound_kept _ _ _ c.self.invariant (loads.shaped c.self.view_is c.self.invariant.0 c.args.class.least c.args.class.most c.rank-rank.ensures.value (calls.count_in c.self.view_is c.self.invariant.0 c.args.class.least c.args.class.most c.rank-rank.ensures.value c.requires.area) c.index_mut-sized_area.ensures.value c.shape.ensures.valid _ c.shape.ensures.same c.shape.ensures.shaped c.is_full-is_full.result c.is_full-is_full.ensures c.set_mark.ensures).shelf

pub returns : goal.returns
returns g c =
    let now = loads.shaped c.self.view_is c.self.invariant.0 c.args.class.least c.args.class.most c.rank-rank.ensures.value (calls.count_in c.self.view_is c.self.invariant.0 c.args.class.least c.args.class.most c.rank-rank.ensures.value c.requires.area) c.index_mut-sized_area.ensures.value c.shape.ensures.valid _ c.shape.ensures.same c.shape.ensures.shaped c.is_full-is_full.result c.is_full-is_full.ensures c.set_mark.ensures in
    record { shaped = now.area; same = now.same; valid_shelf = now.valid }
