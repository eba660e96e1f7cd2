use Rattle.std.proofs.Common.{◌≡◌, ℕ, ◌+◌, ◌*◌, ◌<◌, length, get_or, set, None, Some, sym, ap, subst, ◌∙◌, arith}
use denote.RawPtr.{block_of}
use Rattle.std.proofs.lemmas.List.{get_or_read}
use Rattle.std.proofs.lemmas.Nat.{mul-add-lt}
use Rattle.dym_region.specs.declared.segment.SegmentId.{SegmentId}
use Rattle.dym_quota.specs.HeldIds.{IsHeld, GivesBack}
use Rattle.dym_quota.specs.Bound.{missing}
use Rattle.dym_quota.specs.declared.fixed_supply.FixedSupply.{FixedSupply}
use Rattle.dym_quota.proofs.Missing.{at, goes_out, empty_held, numbered_without, fewer_by_one}
use Rattle.dym_quota.proofs.fixed_supply.FixedSupplySupply.take.Goals as goal

-- each area has a slot
slot_inside : (s : FixedSupply) (class ordinal : ℕ) → class < 12 → ordinal < s.quota → class * s.quota + ordinal < length s.segments.items
slot_inside s class ordinal is_class is_low = omega (arith, mul-add-lt class s.quota ordinal 12 is_class is_low, s.whole, s.segments.ok.0)

pub unreachable-requires : goal.unreachable-requires
unreachable-requires c =
    let s = c.args.self.now in
    let items = s.segments.items in
    let k : ℕ = c.args.class * s.quota + c.args.ordinal in
    let inside = slot_inside s c.args.class c.args.ordinal c.requires.class c.requires.ordinal in
    let empty : get_or items k None ≡ None = sym (get_or_read items k _ inside c.index_mut-slot.ensures.value None) ∙ sym c.take.ensures.value ∙ c.in_default.is in
    let zero : 0 + k ≡ k = omega arith in
    c.requires.free (subst (λ n. IsHeld (missing s.region.id 0 items) (at s.region.id n)) zero (empty_held s.region.id 0 items k inside empty))

pub invariant_of-self : goal.invariant_of-self
invariant_of-self c =
    let s = c.args.self.now in
    let items = s.segments.items in
    let k : ℕ = c.args.class * s.quota + c.args.ordinal in
    let inside = slot_inside s c.args.class c.args.ordinal c.requires.class c.requires.ordinal in
    let there : get_or items k None ≡ Some c.in-Some.segment = sym (get_or_read items k _ inside c.index_mut-slot.ensures.value None) ∙ sym c.take.ensures.value ∙ c.in-Some.is in
    let same = ap (set items k) c.take.ensures.after in
    record {
      most = s.most;
      whole = s.whole;
      cut = s.cut;
      empty = s.empty;
      room = s.room;
      begins = s.begins;
      numbered = λ i x is. numbered_without _ s.region.id items k inside s.numbered i x (ap (λ xs. get_or xs i None) (sym same) ∙ is);
      counted = ap (λ xs. length (missing s.region.id 0 xs)) same ∙ omega (arith, fewer_by_one _ _ _ (goes_out s.region.id 0 items k c.in-Some.segment there), s.counted);
    }

pub returns-clause-taken : goal.returns-clause-taken
returns-clause-taken c =
    let s = c.args.self.now in
    let items = s.segments.items in
    let region = s.region.id in
    let segment = c.in-Some.segment in
    let k : ℕ = c.args.class * s.quota + c.args.ordinal in
    let inside = slot_inside s c.args.class c.args.ordinal c.requires.class c.requires.ordinal in
    let there : get_or items k None ≡ Some segment = sym (get_or_read items k _ inside c.index_mut-slot.ensures.value None) ∙ sym c.take.ensures.value ∙ c.in-Some.is in
    let is = s.numbered k segment there in
    let zero : 0 + k ≡ k = omega arith in
    let one : SegmentId = record { region = block_of segment.bytes.ptr; number = segment.number } in
    let id : at region (0 + k) ≡ one = λ i. record { region = sym is.0 i; number = (zero ∙ sym is.1) i } in
    let same = ap (set items k) c.take.ensures.after in
    let out = subst (GivesBack (missing region 0 (set items k None)) (missing region 0 items)) id (goes_out region 0 items k segment there) in
    subst (λ xs. GivesBack (missing region 0 xs) (missing region 0 items) one) (sym same) out

pub returns-clause-is_bound : goal.returns-clause-is_bound
returns-clause-is_bound c =
    let s = c.args.self.now in
    let items = s.segments.items in
    let k : ℕ = c.args.class * s.quota + c.args.ordinal in
    let inside = slot_inside s c.args.class c.args.ordinal c.requires.class c.requires.ordinal in
    let there : get_or items k None ≡ Some c.in-Some.segment = sym (get_or_read items k _ inside c.index_mut-slot.ensures.value None) ∙ sym c.take.ensures.value ∙ c.in-Some.is in
    let is = s.numbered k c.in-Some.segment there in
    λ i. record { region = is.0 i; number = is.1 i }
