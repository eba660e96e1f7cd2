-- Where a chunk lies, from where its area's segment lies.
use Rattle.std.proofs.Common.{◌≡◌, ℕ, ◌+◌, ◌-◌, ◌*◌, ◌/◌, ◌%◌, ◌<◌, ◌≤◌, ◌^◌, Some, IsSome, refl, sym, ap, subst, ◌∙◌, arith}
use Rattle.std.specs.Option.{ForSome}
use Rattle.std.specs.Prelude.{option_map, unwrap_or}
use denote.RawPtr.{Ptr, block_ptr, InBlock, ◌+ₚ◌}
use Rattle.std.proofs.lemmas.Nat.{pow_pos, mod_below}
use Rattle.dym_base.specs.Numbers.{size, per, rank}
use Rattle.dym_base.specs.Origins.{Origin, own, shared}
use Rattle.dym_base.specs.declared.handle.Handle.{Handle}
use Rattle.dym_base.specs.declared.limits.TheConstants.{SEGMENT_BYTES}
use Rattle.dym_region.specs.Identity.{start_of}
use Rattle.dym_quota.specs.Bound.{bound_by, region_origin}
use Rattle.dym_heap.specs.Addresses.{address_of, region_of}
use Rattle.dym_heap.specs.Meaning.{HeapMeaning}
use Rattle.dym_heap.specs.Shelves.{ShelfMeaning}
use Rattle.dym_heap.proofs.Sizes.{chunk_fits}
use Rattle.dym_heap.proofs.Tidy.{meaning_of}

-- the segment of area o of class c lies in the region's block, at the place of its number
record StartsAt (origin : Origin) (quota c o : ℕ) (p : Ptr) : Type 0 where
  pub region : ℕ
  pub is_region : region_of origin ≡ Some region
  pub at : p ≡ block_ptr region ((c * quota + o) * SEGMENT_BYTES)

abbrev pub Lies : Origin → ℕ → ℕ → ℕ → Ptr → Type 0
Lies origin quota c o p = ForSome (bound_by origin quota) (λ f. ForSome (Some (start_of (f c o))) (λ place. p ≡ place))

starts_at : (origin : Origin) (quota c o : ℕ) (p : Ptr) → IsSome (region_of origin) → Lies origin quota c o p → StartsAt origin quota c o p
starts_at own quota c o p some lies = absurd cc
starts_at (shared name) quota c o p some lies = record { region = name.block; is_region = refl; at = lies _ refl _ refl }

start_in_block : (origin : Origin) (quota c o : ℕ) (p : Ptr) → IsSome (region_of origin) → Lies origin quota c o p → InBlock p
start_in_block origin quota c o p some lies = subst InBlock (sym (starts_at origin quota c o p some lies).at) tt

chunk_lies : (origin : Origin) (quota c o n : ℕ) (p q : Ptr) → IsSome (region_of origin) → Lies origin quota c o p
    → q ≡ p +ₚ n
    → option_map (λ region. block_ptr region ((c * quota + o) * SEGMENT_BYTES + n)) (region_of origin) ≡ Some q
chunk_lies origin quota c o n p q some lies moved =
    let s = starts_at origin quota c o p some lies in
    ap (option_map (λ region. block_ptr region ((c * quota + o) * SEGMENT_BYTES + n))) s.is_region
    ∙ ap Some (sym (moved ∙ ap (λ (x : Ptr). x +ₚ n) s.at))

-- ---- of a heap, from its shelf

module _ (s : ShelfMeaning) {applied : ℕ} {heap : HeapMeaning} (view : meaning_of s applied ≡ heap) (h : Handle) (segment : Ptr) (region : IsSome (region_of heap.origin))
    (lies : Lies s.origin s.quota (rank h.exp) (h.index / per h.exp) segment) where
  some_s : IsSome (region_of s.origin)
  some_s = subst (λ (x : HeapMeaning). IsSome (region_of x.origin)) (sym view) region

  pub segment_in_block : InBlock segment
  segment_in_block = start_in_block s.origin s.quota _ _ segment some_s lies

  pub address_is : (place : Ptr) → place ≡ segment +ₚ ((h.index % per h.exp) * size h.exp) → address_of heap h ≡ Some place
  address_is place moved =
      subst (λ (x : HeapMeaning). address_of x h ≡ Some place) view
      (chunk_lies s.origin s.quota _ _ ((h.index % per h.exp) * size h.exp) segment place some_s lies moved)

-- a region begins at its first byte
pub begins : {origin : Origin} (id : ℕ) {p : Ptr} → region_origin id ≡ origin → p ≡ block_ptr id 0 → IsSome (region_of origin) × ForSome (region_of origin) (λ region. p ≡ block_ptr region 0)
begins id {p} same at =
    subst (λ o. IsSome (region_of o) × ForSome (region_of o) (λ region. p ≡ block_ptr region 0)) same
    (refl, λ region is. at ∙ ap (λ x. block_ptr (unwrap_or x 0) 0) is)

-- a chunk lies within its segment
pub offset_small : (e i r s : ℕ) → e ≤ 16 → r ≡ per e → s ≡ size e → i % r * s < 2 ^ 32
offset_small e i r s high r_is s_is =
    let same : i % r * s ≡ i % per e * size e = (λ j. (i % r_is j) * s_is j) in
    let fits = chunk_fits e (i % per e) high (mod_below i (per e) (pow_pos (16 - e))) in
    omega (arith, same, fits)
