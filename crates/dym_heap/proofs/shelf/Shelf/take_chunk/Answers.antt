use Rattle.std.proofs.Common.{rules, arith}
use Rattle.dym_heap.proofs.ShelfCalls as calls
use Rattle.dym_heap.proofs.AreaBindings.{bound_kept}
use Rattle.dym_heap.proofs.shelf.Shelf.take_chunk.Goals as goal

pub first_clear-requires : goal.first_clear-requires
first_clear-requires g c = let l = calls.limit_k c.self.view_is c.self.invariant.0 c.args.class.least c.args.class.most c.rank-rank.result c.rank-rank.ensures.value in omega arith

pub returns-in_default-clause-first : goal.returns-in_default-clause-first
returns-in_default-clause-first g c = calls.full_k c.self.view_is c.self.invariant.0 c.args.class.least c.args.class.most c.rank-rank.result _ c.rank-rank.ensures.value c.index.ensures c.in_default.ensures

pub returns-in_default-clause-valid_shelf : goal.returns-in_default-clause-valid_shelf
returns-in_default-clause-valid_shelf g c = calls.valid_s c.self.view_is c.self.invariant.0

pub index_mut-sized_area-requires : goal.index_mut-sized_area-requires
index_mut-sized_area-requires g c = let l = calls.place_k c.self.view_is c.self.invariant.0 c.args.class.least c.args.class.most c.rank-rank.ensures.value c.index.ensures c.in-Some.ensures in omega arith

pub take_chunk-requires : goal.take_chunk-requires
take_chunk-requires g c = calls.sized_k c.self.view_is c.self.invariant.0 c.args.class.least c.args.class.most c.rank-rank.ensures.value c.index.ensures c.in-Some.ensures c.index_mut-sized_area.ensures.value c.args.len c.requires

pub unreachable-requires : goal.unreachable-requires
unreachable-requires g c = calls.not_full_k c.self.view_is c.self.invariant.0 c.args.class.least c.args.class.most c.rank-rank.ensures.value c.index.ensures c.in-Some.ensures c.index_mut-sized_area.ensures.value c.in_default-take_chunk.ensures.free

pub mark_full-requires-clause-ordinal : goal.mark_full-requires-clause-ordinal
mark_full-requires-clause-ordinal g c = calls.small_k c.self.view_is c.self.invariant.0 c.args.class.least c.args.class.most c.rank-rank.ensures.value c.index.ensures c.in-Some.ensures

pub overflow_mul-result : goal.overflow_mul-result
overflow_mul-result g c =
    let fits = calls.fits_k c.self.view_is c.self.invariant.0 c.args.class.least c.args.class.most c.rank-rank.ensures.value c.index.ensures c.in-Some.ensures c.index_mut-sized_area.ensures.value c.in-Some-take_chunk.ensures.free c.per_area.ensures in
    let l = fits.1 in
    search rules

pub overflow_add-result : goal.overflow_add-result
overflow_add-result g c =
    let fits = calls.fits_k c.self.view_is c.self.invariant.0 c.args.class.least c.args.class.most c.rank-rank.ensures.value c.index.ensures c.in-Some.ensures c.index_mut-sized_area.ensures.value c.in-Some-take_chunk.ensures.free c.per_area.ensures in
    let l = fits.0 in
    search rules

pub invariant_of-self : goal.invariant_of-self
invariant_of-self g c = bound_kept _ _ _ c.self.invariant (calls.taken_k c.self.view_is c.self.invariant.0 c.args.class.least c.args.class.most c.rank-rank.ensures.value c.index.ensures c.in-Some.ensures c.index_mut-sized_area.ensures.value c.in-Some-take_chunk.ensures.free c.per_area.ensures c.args.len _ c.in-Some-take_chunk.ensures.taken c.take_chunk.ensures.valid c.mark_full.ensures c.is_full-is_full.ensures).shelf

pub returns : goal.returns
returns g c =
    let now = calls.taken_k c.self.view_is c.self.invariant.0 c.args.class.least c.args.class.most c.rank-rank.ensures.value c.index.ensures c.in-Some.ensures c.index_mut-sized_area.ensures.value c.in-Some-take_chunk.ensures.free c.per_area.ensures c.args.len _ c.in-Some-take_chunk.ensures.taken c.take_chunk.ensures.valid c.mark_full.ensures c.is_full-is_full.ensures in
    record { taken = now.gives; first = calls.first_k c.self.view_is c.self.invariant.0 c.args.class.least c.args.class.most c.rank-rank.ensures.value c.index.ensures c.in-Some.ensures c.index_mut-sized_area.ensures.value c.in-Some-take_chunk.ensures.free c.per_area.ensures; valid_shelf = now.valid_shelf }
