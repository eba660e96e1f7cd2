use Rattle.std.proofs.Common.{arith, false, subst, sym, ap, is_some, IsSome, ◌∙◌}
use Rattle.dym_heap.proofs.ShelfCalls as calls
use Rattle.dym_heap.proofs.AreaBindings.{bound_kept}
use Rattle.dym_heap.proofs.shelf.Shelf.release.Goals as goal

pub returns-in_default-clause-used : goal.returns-in_default-clause-used
returns-in_default-clause-used g c = sym (ap is_some (calls.past_e c.self.view_is c.self.invariant.0 c.args.class.least c.args.class.most c.args.index c.ranges.index.fits c.in_default.ensures))

pub returns-in_default-clause-valid_shelf : goal.returns-in_default-clause-valid_shelf
returns-in_default-clause-valid_shelf g c = calls.valid_s c.self.view_is c.self.invariant.0

pub index-requires : goal.index-requires
index-requires g c =
    let l = calls.in_e c.self.view_is c.self.invariant.0 c.args.class.least c.args.class.most c.args.index c.ranges.index.fits c.in-Some.ensures in omega arith

pub is_used-requires : goal.is_used-requires
is_used-requires g c = calls.inside_e c.self.view_is c.self.invariant.0 c.args.class.least c.args.class.most c.args.index c.ranges.index.fits c.in-Some.ensures c.index.ensures

pub returns-then-not-is_used-clause-used : goal.returns-then-not-is_used-clause-used
returns-then-not-is_used-clause-used g c = c.if-not-is_used.ensures ∙ sym (ap is_some (calls.bytes_e c.self.view_is c.self.invariant.0 c.args.class.least c.args.class.most c.args.index c.ranges.index.fits c.in-Some.ensures c.index.ensures))

pub returns-then-not-is_used-clause-valid_shelf : goal.returns-then-not-is_used-clause-valid_shelf
returns-then-not-is_used-clause-valid_shelf g c = calls.valid_s c.self.view_is c.self.invariant.0

pub index_mut-sized_area-requires : goal.index_mut-sized_area-requires
index_mut-sized_area-requires g c =
    let l = calls.in_e c.self.view_is c.self.invariant.0 c.args.class.least c.args.class.most c.args.index c.ranges.index.fits c.in-Some.ensures in omega arith

pub release-requires : goal.release-requires
release-requires g c = subst IsSome (calls.bytes_e c.self.view_is c.self.invariant.0 c.args.class.least c.args.class.most c.args.index c.ranges.index.fits c.in-Some.ensures c.index_mut-sized_area.ensures.value) (sym (c.if-not-is_used.ensures ∙ sym (ap is_some (calls.bytes_e c.self.view_is c.self.invariant.0 c.args.class.least c.args.class.most c.args.index c.ranges.index.fits c.in-Some.ensures c.index.ensures))))

pub clear-requires : goal.clear-requires
clear-requires g c = calls.few_e c.self.view_is c.self.invariant.0 c.args.class.least c.args.class.most c.args.index c.ranges.index.fits c.in-Some.ensures

pub invariant_of-self : goal.invariant_of-self
invariant_of-self g c = bound_kept _ _ _ c.self.invariant (calls.released c.self.view_is c.self.invariant.0 c.args.class.least c.args.class.most c.args.index c.ranges.index.fits c.in-Some.ensures c.index_mut-sized_area.ensures.value c.release.ensures.freed c.release.ensures.valid
    (calls.marks_written _ c.in-Some.location.ordinal false c.rank.ensures.value c.index_mut-marks.ensures.value (calls.full_in c.self.view_is c.self.invariant.0 c.args.class.least c.args.class.most c.rank.ensures.value) c.clear.ensures.after)).shelf

pub returns : goal.returns
returns g c =
    let now = calls.released c.self.view_is c.self.invariant.0 c.args.class.least c.args.class.most c.args.index c.ranges.index.fits c.in-Some.ensures c.index_mut-sized_area.ensures.value c.release.ensures.freed c.release.ensures.valid
    (calls.marks_written _ c.in-Some.location.ordinal false c.rank.ensures.value c.index_mut-marks.ensures.value (calls.full_in c.self.view_is c.self.invariant.0 c.args.class.least c.args.class.most c.rank.ensures.value) c.clear.ensures.after) in
    record { used = c.if-not-is_used.ensures ∙ sym (ap is_some (calls.bytes_e c.self.view_is c.self.invariant.0 c.args.class.least c.args.class.most c.args.index c.ranges.index.fits c.in-Some.ensures c.index.ensures)); freed = now.gives; valid_shelf = now.valid_shelf }
