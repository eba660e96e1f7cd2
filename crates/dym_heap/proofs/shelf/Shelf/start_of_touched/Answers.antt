use Rattle.std.proofs.Common.{arith, sym, ◌∙◌}
use Rattle.dym_heap.proofs.ShelfCalls as calls
use Rattle.dym_heap.proofs.ShelfStarts.{start_of_chunk}
use Rattle.dym_heap.proofs.shelf.Shelf.start_of_touched.Goals as goal

pub returns-in_default : goal.returns-in_default
returns-in_default g c =
    calls.untouched_e c.self.view_is c.self.invariant.0 c.args.class.least c.args.class.most c.args.index
    c.ranges.index.fits c.in_default.ensures

pub index-sized_area-requires : goal.index-sized_area-requires
index-sized_area-requires g c =
    let l = calls.in_e c.self.view_is c.self.invariant.0 c.args.class.least c.args.class.most c.args.index
    c.ranges.index.fits c.in-Some.ensures in
    omega arith

pub is_dirty-requires : goal.is_dirty-requires
is_dirty-requires g c =
    calls.inside_e c.self.view_is c.self.invariant.0 c.args.class.least c.args.class.most c.args.index
    c.ranges.index.fits c.in-Some.ensures c.index-sized_area.ensures

pub returns-then-not-is_dirty : goal.returns-then-not-is_dirty
returns-then-not-is_dirty g c =
    calls.touched_e c.self.view_is c.self.invariant.0 c.args.class.least c.args.class.most c.args.index
    c.ranges.index.fits c.in-Some.ensures c.index-sized_area.ensures
    ∙ sym c.if-not-is_dirty.ensures

pub returns : goal.returns
returns g c = (
  calls.touched_e c.self.view_is c.self.invariant.0 c.args.class.least c.args.class.most c.args.index c.ranges.index.fits
      c.in-Some.ensures c.index-sized_area.ensures ∙ sym c.if-not-is_dirty.ensures,
  start_of_chunk g.S.Supply.binding g.S.Seg.Segment.place_of c.self.view_is c.self.invariant.0 c.self.invariant.1
      c.args.class.least c.args.class.most c.args.index c.ranges.index.fits c.in-Some.ensures
      c.index-sized_area.ensures c.start.result c.start.ensures,
)
