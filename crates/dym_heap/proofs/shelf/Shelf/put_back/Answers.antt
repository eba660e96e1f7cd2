use Rattle.std.proofs.Common.{arith, length}
use Rattle.dym_heap.proofs.ShelfCalls as calls
use Rattle.dym_heap.proofs.AreaBindings.{bound_kept}
use Rattle.dym_heap.proofs.shelf.Shelf.put_back.Goals as goal

pub unreachable-requires : goal.unreachable-requires
unreachable-requires g c = let n = calls.count_s c.self.view_is c.self.invariant.0 c.args.class.most in let up = calls.rising_e c.self.view_is c.self.invariant.0 c.args.class.least c.args.class.most in let t = c.requires.there in let past = c.in_default.ensures in omega arith

pub index_mut-sized_area-requires : goal.index_mut-sized_area-requires
index_mut-sized_area-requires g c =
    let l = calls.in_e c.self.view_is c.self.invariant.0 c.args.class.least c.args.class.most c.args.index c.ranges.index.fits c.in-Some.ensures in omega arith

pub put_back-requires-clause-within : goal.put_back-requires-clause-within
put_back-requires-clause-within g c = calls.inside_e c.self.view_is c.self.invariant.0 c.args.class.least c.args.class.most c.args.index c.ranges.index.fits c.in-Some.ensures c.index_mut-sized_area.ensures.value

pub put_back-requires-clause-sized : goal.put_back-requires-clause-sized
put_back-requires-clause-sized g c =
    calls.sized_e c.self.view_is c.self.invariant.0 c.args.class.least c.args.class.most c.args.index c.ranges.index.fits c.in-Some.ensures c.index_mut-sized_area.ensures.value (length c.args.bytes.now) c.requires.sized

pub set_mark-requires-clause-rank : goal.set_mark-requires-clause-rank
set_mark-requires-clause-rank g c = calls.full_in c.self.view_is c.self.invariant.0 c.args.class.least c.args.class.most c.rank.ensures.value

pub set_mark-requires-clause-ordinal : goal.set_mark-requires-clause-ordinal
set_mark-requires-clause-ordinal g c = calls.few_e c.self.view_is c.self.invariant.0 c.args.class.least c.args.class.most c.args.index c.ranges.index.fits c.in-Some.ensures

pub invariant_of-self : goal.invariant_of-self
invariant_of-self g c = bound_kept _ _ _ c.self.invariant (calls.put_back c.self.view_is c.self.invariant.0 c.args.class.least c.args.class.most c.args.index c.ranges.index.fits c.in-Some.ensures c.index_mut-sized_area.ensures.value c.args.bytes.now _ c.put_back.ensures.back c.put_back.ensures.valid c.rank.ensures.value c.set_mark.ensures c.is_full-is_full.ensures).shelf

pub returns : goal.returns
returns g c =
    let now = calls.put_back c.self.view_is c.self.invariant.0 c.args.class.least c.args.class.most c.args.index c.ranges.index.fits c.in-Some.ensures c.index_mut-sized_area.ensures.value c.args.bytes.now _ c.put_back.ensures.back c.put_back.ensures.valid c.rank.ensures.value c.set_mark.ensures c.is_full-is_full.ensures in
    record { back = now.gives; valid_shelf = now.valid_shelf }
