use Rattle.std.proofs.Common.{arith, ◌+◌, subst, length}
use Rattle.dym_base.specs.HeapStep.{splice}
use Rattle.dym_heap.specs.Shelves.{FitsIn}
use Rattle.dym_heap.proofs.ShelfCalls as calls
use Rattle.dym_heap.proofs.AreaBindings.{bound_kept}
use Rattle.dym_heap.proofs.shelf.Shelf.write.Goals as goal

pub unreachable-requires : goal.unreachable-requires
unreachable-requires g c = calls.not_past c.self.view_is c.self.invariant.0 c.args.class.least c.args.class.most c.args.index c.ranges.index.fits (calls.some_fits _ _ c.requires.within) c.in_default.ensures

pub index_mut-sized_area-requires : goal.index_mut-sized_area-requires
index_mut-sized_area-requires g c =
    let l = calls.in_e c.self.view_is c.self.invariant.0 c.args.class.least c.args.class.most c.args.index c.ranges.index.fits c.in-Some.ensures in omega arith

pub write-requires-clause-within : goal.write-requires-clause-within
write-requires-clause-within g c = subst (λ o. FitsIn o (c.args.at + length c.args.bytes.now)) (calls.bytes_e c.self.view_is c.self.invariant.0 c.args.class.least c.args.class.most c.args.index c.ranges.index.fits c.in-Some.ensures c.index_mut-sized_area.ensures.value) c.requires.within

pub invariant_of-self : goal.invariant_of-self
invariant_of-self g c = bound_kept _ _ _ c.self.invariant (calls.written c.self.view_is c.self.invariant.0 c.args.class.least c.args.class.most c.args.index c.ranges.index.fits c.in-Some.ensures c.index_mut-sized_area.ensures.value (splice c.args.at c.args.bytes.now) c.write.ensures.written c.write.ensures.valid).shelf

pub returns : goal.returns
returns g c =
    let now = calls.written c.self.view_is c.self.invariant.0 c.args.class.least c.args.class.most c.args.index c.ranges.index.fits c.in-Some.ensures c.index_mut-sized_area.ensures.value (splice c.args.at c.args.bytes.now) c.write.ensures.written c.write.ensures.valid in
    record { written = now.gives; valid_shelf = now.valid_shelf }
