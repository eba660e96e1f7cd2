use Rattle.std.proofs.Common.{arith, ◌≡◌, is_some, ap, sym, subst, ◌∙◌, length, MatchOption}
use Rattle.dym_base.specs.HeapStep.{fitted}
use Rattle.dym_heap.specs.Meaning.{IsSizeOf}
use Rattle.dym_base.specs.declared.command.Version.TheVariants.{Two}
use Rattle.dym_heap.specs.Shelves.{ShelfMeaning}
use Rattle.dym_heap.proofs.ShelfCalls as calls
use Rattle.dym_heap.proofs.AreaBindings.{bound_kept}
use Rattle.dym_heap.proofs.shelf.Shelf.resize.Goals as goal

pub unreachable-requires : goal.unreachable-requires
unreachable-requires g c = calls.not_past c.self.view_is c.self.invariant.0 c.args.class.least c.args.class.most c.args.index c.ranges.index.fits (ap is_some (calls.matched _ _ c.requires.another).1) c.in_default.ensures

pub index_mut-sized_area-requires : goal.index_mut-sized_area-requires
index_mut-sized_area-requires g c =
    let l = calls.in_e c.self.view_is c.self.invariant.0 c.args.class.least c.args.class.most c.args.index c.ranges.index.fits c.in-Some.ensures in omega arith

pub resize-requires-clause-version : goal.resize-requires-clause-version
resize-requires-clause-version g c =
    (calls.placed_q c.self.view_is c.self.invariant.0 (calls.stands_e c.self.view_is c.self.invariant.0 c.args.class.least c.args.class.most c.args.index c.ranges.index.fits c.in-Some.ensures) c.index_mut-sized_area.ensures.value).version ∙ ap (λ (s : ShelfMeaning). s.version) c.self.view_is ∙ c.requires.version

pub resize-requires-clause-sized : goal.resize-requires-clause-sized
resize-requires-clause-sized g c =
    subst (λ n. IsSizeOf Two n c.args.len) (sym (calls.placed_q c.self.view_is c.self.invariant.0 (calls.stands_e c.self.view_is c.self.invariant.0 c.args.class.least c.args.class.most c.args.index c.ranges.index.fits c.in-Some.ensures) c.index_mut-sized_area.ensures.value).exponent) c.requires.sized

pub resize-requires-clause-another : goal.resize-requires-clause-another
resize-requires-clause-another g c = subst (λ o. MatchOption o ⊥ (λ old. length old ≡ c.args.len → ⊥)) (calls.bytes_e c.self.view_is c.self.invariant.0 c.args.class.least c.args.class.most c.args.index c.ranges.index.fits c.in-Some.ensures c.index_mut-sized_area.ensures.value) c.requires.another

pub invariant_of-self : goal.invariant_of-self
invariant_of-self g c = bound_kept _ _ _ c.self.invariant (calls.written c.self.view_is c.self.invariant.0 c.args.class.least c.args.class.most c.args.index c.ranges.index.fits c.in-Some.ensures c.index_mut-sized_area.ensures.value (fitted c.args.len) c.resize.ensures.resized c.resize.ensures.valid).shelf

pub returns : goal.returns
returns g c =
    let now = calls.written c.self.view_is c.self.invariant.0 c.args.class.least c.args.class.most c.args.index c.ranges.index.fits c.in-Some.ensures c.index_mut-sized_area.ensures.value (fitted c.args.len) c.resize.ensures.resized c.resize.ensures.valid in
    record { resized = now.gives; valid_shelf = now.valid_shelf }
