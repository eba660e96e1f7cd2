use Rattle.std.proofs.Common.{arith, subst}
use Rattle.dym_heap.specs.Shelves.{FitsIn}
use Rattle.dym_heap.proofs.ShelfCalls as calls
use Rattle.dym_heap.proofs.ShelfStarts.{start_of_chunk}
use Rattle.dym_heap.proofs.AreaBindings.{bound_kept}
use Rattle.dym_heap.proofs.shelf.Shelf.touch.Goals as goal

pub unreachable-requires : goal.unreachable-requires
unreachable-requires g c =
    calls.not_past c.self.view_is c.self.invariant.0 c.args.class.least c.args.class.most c.args.index
    c.ranges.index.fits (calls.some_fits _ _ c.requires) c.in_default.ensures

pub index_mut-sized_area-requires : goal.index_mut-sized_area-requires
index_mut-sized_area-requires g c =
    let l = calls.in_e c.self.view_is c.self.invariant.0 c.args.class.least c.args.class.most c.args.index
    c.ranges.index.fits c.in-Some.ensures in
    omega arith

pub touch-requires : goal.touch-requires
touch-requires g c =
    subst (λ o. FitsIn o 1) (calls.bytes_e c.self.view_is c.self.invariant.0 c.args.class.least c.args.class.most c.args.index
    c.ranges.index.fits c.in-Some.ensures c.index_mut-sized_area.ensures.value) c.requires

pub invariant_of-self : goal.invariant_of-self
invariant_of-self g c = bound_kept _ _ _ c.self.invariant (calls.written c.self.view_is c.self.invariant.0 c.args.class.least c.args.class.most c.args.index
    c.ranges.index.fits c.in-Some.ensures c.index_mut-sized_area.ensures.value (λ bytes. bytes)
    c.touch.ensures.touched c.touch.ensures.valid).shelf

pub returns : goal.returns
returns g c =
    let now = calls.written c.self.view_is c.self.invariant.0 c.args.class.least c.args.class.most c.args.index
    c.ranges.index.fits c.in-Some.ensures c.index_mut-sized_area.ensures.value (λ bytes. bytes)
    c.touch.ensures.touched c.touch.ensures.valid in
    record {
      touched = now.gives;
      start = start_of_chunk g.S.Supply.binding g.S.Seg.Segment.place_of c.self.view_is c.self.invariant.0 c.self.invariant.1
          c.args.class.least c.args.class.most c.args.index c.ranges.index.fits c.in-Some.ensures
          c.index_mut-sized_area.ensures.value c.start-start.result c.start-start.ensures;
      valid_shelf = now.valid_shelf;
    }
