use Rattle.std.proofs.Common.{arith}
use Rattle.dym_heap.proofs.ShelfCalls as calls
use Rattle.dym_heap.proofs.AreaBindings.{bound_kept}
use Rattle.dym_heap.proofs.shelf.Shelf.forget.Goals as goal

pub returns-in_default : goal.returns-in_default
returns-in_default g c = record { forgotten = calls.quiet_e c.self.view_is c.self.invariant.0 c.args.class.least c.args.class.most c.args.index c.ranges.index.fits c.in_default.ensures; valid_shelf = calls.valid_s c.self.view_is c.self.invariant.0 }

pub index_mut-sized_area-requires : goal.index_mut-sized_area-requires
index_mut-sized_area-requires g c =
    let l = calls.in_e c.self.view_is c.self.invariant.0 c.args.class.least c.args.class.most c.args.index c.ranges.index.fits c.in-Some.ensures in omega arith

pub forget-requires : goal.forget-requires
forget-requires g c = calls.inside_e c.self.view_is c.self.invariant.0 c.args.class.least c.args.class.most c.args.index c.ranges.index.fits c.in-Some.ensures c.index_mut-sized_area.ensures.value

pub invariant_of-self : goal.invariant_of-self
invariant_of-self g c = bound_kept _ _ _ c.self.invariant (calls.forgotten c.self.view_is c.self.invariant.0 c.args.class.least c.args.class.most c.args.index c.ranges.index.fits c.in-Some.ensures c.index_mut-sized_area.ensures.value c.forget.ensures.forgotten c.forget.ensures.valid).shelf

pub returns : goal.returns
returns g c = record {
  forgotten = calls.forgotten_e c.self.view_is c.self.invariant.0 c.args.class.least c.args.class.most c.args.index c.ranges.index.fits c.in-Some.ensures c.index_mut-sized_area.ensures.value c.forget.ensures.forgotten c.forget.ensures.valid;
  valid_shelf = (calls.forgotten c.self.view_is c.self.invariant.0 c.args.class.least c.args.class.most c.args.index c.ranges.index.fits c.in-Some.ensures c.index_mut-sized_area.ensures.value c.forget.ensures.forgotten c.forget.ensures.valid).valid_shelf;
}
