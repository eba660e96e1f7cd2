use Rattle.std.proofs.Common.{◌≡◌, true, false, IsSome, rules, subst}
use Rattle.std.specs.FinMap.{get}
use Rattle.std.specs.FinSet.{contains}
use Rattle.dym_base.specs.HeapStep.{key}
use Rattle.dym_heap.specs.Meaning.{HeapMeaning}
use Rattle.dym_heap.proofs.Addresses.{segment_in_block, address_is}
use Rattle.dym_heap.proofs.Tidy.{no_class, not_touched}
use Rattle.dym_heap.proofs.address.Heap+FixedSupply.touched_address.Goals as goal

pub returns-then-not-has_class : goal.returns-then-not-has_class
returns-then-not-has_class c =
    subst (λ (x : HeapMeaning). contains x.state.touched (key c.args.h) ≡ false) c.self.view_is
    (not_touched (key c.args.h) c.self.invariant.valid_shelf (no_class c.args.h (search rules) c.if-not-has_class.ensures))

pub returns-in_default : goal.returns-in_default
returns-in_default c =
    subst (λ (x : HeapMeaning). contains x.state.touched (key c.args.h) ≡ false) c.self.view_is c.in_default.ensures

pub chunk_within-requires : goal.chunk_within-requires
chunk_within-requires c = segment_in_block c.self.inside.shelf c.self.view_is c.args.h c.in-Some.segment c.start.ensures.region c.in-Some.ensures.1

pub returns : goal.returns
returns c =
    let live = c.self.invariant.valid_shelf.touched_live (key c.args.h) c.in-Some.ensures.0 in (
      subst (λ (x : HeapMeaning). contains x.state.touched (key c.args.h) ≡ true) c.self.view_is c.in-Some.ensures.0,
      subst (λ (x : HeapMeaning). IsSome (get x.state.live (key c.args.h))) c.self.view_is live,
      address_is c.self.inside.shelf c.self.view_is c.args.h c.in-Some.segment c.start.ensures.region c.in-Some.ensures.1 c.chunk_within.result c.chunk_within.ensures,
    )
