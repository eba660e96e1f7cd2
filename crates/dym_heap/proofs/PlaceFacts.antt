-- The clauses of a place's calls, from those of its area's calls. Here `p` is the place of `area` and `ls`.
use Rattle.std.proofs.Common.{◌≡◌, ℕ, ◌+◌, ◌-◌, ◌<◌, ◌≤◌, Bool, true, false, not, is_some, is_none, IsSome, Option, Some, None, List, length, get_or, take, drop, replicate, refl, sym, ap, subst, ◌∙◌, arith, length-take, MatchOption, MatchBool}
use Rattle.std.proofs.lemmas.List.{same_lists, get_or-take, get_or-drop, length-drop}
use Rattle.std.specs.Prelude.{option_map}
use Rattle.dym_base.specs.Numbers.{size, per}
use Rattle.dym_base.specs.HeapStep.{splice, fitted}
use Rattle.dym_base.specs.declared.command.Version.TheVariants.{Two}
use Rattle.dym_base.specs.declared.limits.TheConstants.{MOST_CHUNKS}
use Rattle.dym_bits.specs.Bits.{IsSet, IsClear, IsFirstClear, IsNextSet}
use Rattle.dym_region.specs.Content.{part_of}
use Rattle.dym_area.specs.Area.{AreaMeaning, IsValidArea, chunk_start, with_taken, with_released, with_written, with_clean}
use Rattle.dym_heap.specs.Meaning.{IsSizeOf}
use Rattle.dym_heap.specs.Shelves.{FitsIn}
use Rattle.dym_heap.specs.SizedAreas.{SizedAreaMeaning, len_of, chunk_in, version_by, place_of, IsMeasured, area_with_chunk, IsFreeIn, IsUsedFrom, with_length}
use Rattle.dym_heap.specs.declared.lengths.Lengths.{Lengths}
use Rattle.dym_heap.specs.Lengths.{numbers_of}
use Rattle.dym_heap.proofs.Parts.{length-part_of, get_or-part_of}
use Rattle.dym_heap.proofs.Sizes.{size_fits, per_fits}
use Rattle.dym_heap.proofs.PlaceSteps.{length-chunks_in, chunk_of, used_chunk, unused_chunk, some_used, chunk_room, length_of_chunk, Reaches}
use Rattle.dym_heap.proofs.PlaceCalls.{Steps, taken, released, written, grown, shrunk, cleaned, first_free}

pub reaches : (lengths : Option Lengths) {i : ℕ} → i < MOST_CHUNKS → Reaches (numbers_of lengths) i
reaches None l = tt
reaches (Some lengths) l = let whole = lengths.whole in omega arith

pub match_some : {A : Type 0} {o : Option A} (x : A) (Q : A → Type 0) → o ≡ Some x → Q x → MatchOption o ⊥ Q
match_some {o} x Q is q = subst (λ o. MatchOption o ⊥ Q) (sym is) q

module _ {area : AreaMeaning} {ls : Option (List ℕ)} {p : SizedAreaMeaning} (v : place_of area ls ≡ p) (m : IsMeasured area ls) where
  pub chunk_at_p : (i : ℕ) → get_or p.chunks i None ≡ chunk_in area ls i
  chunk_at_p i = sym (ap (λ (q : SizedAreaMeaning). get_or q.chunks i None) v) ∙ chunk_of ls i m.valid

  pub long_p : length p.chunks ≡ per area.exponent
  long_p = sym (ap (λ (q : SizedAreaMeaning). length q.chunks) v) ∙ length-chunks_in area ls

  pub below_p : {i : ℕ} → i < length p.chunks → i < per area.exponent
  below_p l = let long = long_p in omega arith

  pub few_p : {i : ℕ} → i < per area.exponent → i < MOST_CHUNKS
  few_p l = let few = per_fits m.valid.least in omega arith

  pub set_p : (i : ℕ) → IsSome (get_or p.chunks i None) → IsSet area.used i
  set_p i some = sym (some_used area ls i) ∙ sym (ap is_some (chunk_at_p i)) ∙ some

  -- ---- queries

  pub full_p : ((k : ℕ) → k < per area.exponent → IsSet area.used k) → (i : ℕ) → i < length p.chunks → IsSome (get_or p.chunks i None)
  full_p used i l = ap is_some (chunk_at_p i) ∙ some_used area ls i ∙ used i (below_p l)

  pub not_full_p : ((i : ℕ) → i < length p.chunks → IsSome (get_or p.chunks i None)) → (k : ℕ) → k < per area.exponent → IsSet area.used k
  not_full_p full k l = set_p k (full k (let long = long_p in omega arith))

  pub first_p : (i : ℕ) → IsFirstClear area.used (per area.exponent) i → IsFreeIn p.chunks i
  first_p i first = subst (λ (q : SizedAreaMeaning). IsFreeIn q.chunks i) v (first_free area ls i m.valid first)

  pub free_p : (i : ℕ) → IsClear area.used i → get_or p.chunks i None ≡ None
  free_p i clear = chunk_at_p i ∙ unused_chunk area ls i clear

  pub some_p : (i : ℕ) → IsSet area.used i → IsSome (get_or p.chunks i None)
  some_p i h = ap is_some (chunk_at_p i) ∙ some_used area ls i ∙ h

  pub next_p : (o : Option ℕ) (from : ℕ) → MatchOption o ((i : ℕ) → from ≤ i → IsClear area.used i) (IsNextSet area.used from)
      → MatchOption o ((i : ℕ) → from ≤ i → get_or p.chunks i None ≡ None) (λ i. IsUsedFrom p.chunks from i)
  next_p None from clear = λ i l. free_p i (clear i l)
  next_p (Some i) from next = record { at_least = next.at_least; used = some_p i next.is_set; least = λ k low high. free_p k (next.least k low high) }

  pub empty_p : (o : Option ℕ) → MatchOption o ((i : ℕ) → 0 ≤ i → IsClear area.used i) (IsNextSet area.used 0)
      → MatchBool (is_none o) ((i : ℕ) → get_or p.chunks i None ≡ None) ((i : ℕ) × IsSome (get_or p.chunks i None))
  empty_p None clear = λ i. free_p i (clear i (omega arith))
  empty_p (Some i) next = (i, some_p i next.is_set)

  pub len_used_p : (i : ℕ) → IsSet area.used i → Some (len_of area.exponent ls i) ≡ option_map length (get_or p.chunks i None)
  len_used_p i h =
      let at : chunk_in area ls i ≡ Some (part_of area.content (chunk_start area i) (len_of area.exponent ls i)) = used_chunk area ls i h in
      sym (ap (option_map length) (chunk_at_p i ∙ at) ∙ ap Some (length-part_of area.content (chunk_start area i) (len_of area.exponent ls i) (chunk_room i m h)))

  pub len_free_p : (i : ℕ) → IsClear area.used i → None ≡ option_map (length {A = ℕ}) (get_or p.chunks i None)
  len_free_p i clear = sym (ap (option_map length) (free_p i clear))

  pub len_fits_p : (i : ℕ) → IsSet area.used i → len_of area.exponent ls i ≤ size area.exponent
  len_fits_p i h = size_fits (version_by ls) area.exponent (len_of area.exponent ls i) (m.fits i h)

  pub bytes_p : (i n : ℕ) → IsSet area.used i → n ≡ len_of area.exponent ls i → Some (part_of area.content (chunk_start area i + 0) n) ≡ get_or p.chunks i None
  bytes_p i n h long =
      let start : chunk_start area i + 0 ≡ chunk_start area i = omega arith in
      ap (λ a. Some (part_of area.content a n)) start
      ∙ ap (λ k. Some (part_of area.content (chunk_start area i) k)) long
      ∙ sym (used_chunk area ls i h)
      ∙ sym (chunk_at_p i)

  -- ---- a chunk in use, of at least n bytes
  pub record InUse (i n : ℕ) : Type 0 where
    pub old : List ℕ
    pub chunk : chunk_in area ls i ≡ Some old
    pub at : get_or p.chunks i None ≡ Some old
    pub is_set : IsSet area.used i
    pub below : i < per area.exponent
    pub fits : n ≤ length old
    pub noted_as : length old ≡ len_of area.exponent ls i
    pub small : length old ≤ size area.exponent
    pub bytes : old ≡ part_of area.content (chunk_start area i) (length old)

  use_of : (i n : ℕ) (old : List ℕ) → get_or p.chunks i None ≡ Some old → n ≤ length old → InUse i n
  use_of i n old at fits =
      let chunk : chunk_in area ls i ≡ Some old = sym (chunk_at_p i) ∙ at in
      let h : IsSet area.used i = sym (some_used area ls i) ∙ ap is_some chunk in
      let len : length old ≡ len_of area.exponent ls i = length_of_chunk i old m chunk in
      record {
        old = old;
        chunk = chunk;
        at = at;
        is_set = h;
        below = m.valid.used_below i h;
        fits = fits;
        noted_as = len;
        small = (let s = size_fits (version_by ls) area.exponent (len_of area.exponent ls i) (m.fits i h) in omega arith);
        bytes = (let u = used_chunk area ls i h in let n = ap (λ k. part_of area.content (chunk_start area i) k) len in cc);
      }

  pub in_use : (i n : ℕ) → FitsIn (get_or p.chunks i None) n → InUse i n
  in_use i n fits =
      elim (get_or p.chunks i None) as (λ o. get_or p.chunks i None ≡ o → FitsIn o n → InUse i n) [
        | None ↦ λ e f. absurd f
        | Some old ↦ λ e f. use_of i n old e f
      ] refl fits

  pub another_in_use : (i n : ℕ) → MatchOption (get_or p.chunks i None) ⊥ (λ old. length old ≡ n → ⊥) → (u : InUse i 0) × (length u.old ≡ n → ⊥)
  unfolding use_of
  another_in_use i n another =
      elim (get_or p.chunks i None) as (λ o. get_or p.chunks i None ≡ o → MatchOption o ⊥ (λ old. length old ≡ n → ⊥) → (u : InUse i 0) × (length u.old ≡ n → ⊥)) [
        | None ↦ λ e f. absurd f
        | Some old ↦ λ e f. (use_of i 0 old e (omega arith), f)
      ] refl another

  -- ---- steps

  -- the place after a step, as a place with a chunk put
  put_p : {area' : AreaMeaning} {ls' : Option (List ℕ)} (i : ℕ) (x : Option (List ℕ)) (b : Bool) → Steps area' ls' (area_with_chunk (place_of area ls) i x b) → Steps area' ls' (area_with_chunk p i x b)
  put_p i x b steps = record { is = steps.is ∙ ap (λ q. area_with_chunk q i x b) v; measured = steps.measured }

  pub taken_p : {area' : AreaMeaning} {ls' : Option (List ℕ)} (i n : ℕ) → area' ≡ with_taken area i → IsValidArea area' → ls' ≡ with_length ls i n → Reaches ls i → i < per area.exponent → IsSizeOf p.version p.exponent n
      → Steps area' ls' (area_with_chunk p i (Some (replicate n 0)) true)
  taken_p {ls'} i n after valid' lengths r l sized =
      subst (λ a. Steps a ls' (area_with_chunk p i (Some (replicate n 0)) true)) (sym after) (subst (λ x. Steps (with_taken area i) x (area_with_chunk p i (Some (replicate n 0)) true)) (sym lengths)
      (put_p i _ true (taken area ls i n m l (subst IsValidArea after valid') r (subst (λ (q : SizedAreaMeaning). IsSizeOf q.version q.exponent n) (sym v) sized))))

  pub released_p : (area' : AreaMeaning) (i : ℕ) → area' ≡ with_released area i → IsValidArea area' → IsSet area.used i → Steps area' ls (area_with_chunk p i None false)
  released_p area' i after valid' h =
      subst (λ a. Steps a ls (area_with_chunk p i None false)) (sym after) (put_p i None false (released area ls i m h (subst IsValidArea after valid')))

  pub written_p : {area' : AreaMeaning} {i : ℕ} (at : ℕ) (ys : List ℕ) (u : InUse i (at + length ys)) → area' ≡ with_written area i at ys → IsValidArea area' → Reaches ls i → 0 < length ys
      → Steps area' ls (area_with_chunk p i (Some (splice at ys u.old)) true)
  written_p {i} at ys u after valid' r some =
      subst (λ a. Steps a ls (area_with_chunk p i (Some (splice at ys u.old)) true)) (sym after)
      (put_p i _ true (written area ls i at ys u.old m u.chunk some u.fits (subst IsValidArea after valid') r))

  pub grown_p : {area' : AreaMeaning} {ls' : Option (List ℕ)} {i : ℕ} (n : ℕ) (u : InUse i 0) → area' ≡ with_written area i (length u.old) (replicate (n - length u.old) 0) → IsValidArea area' → ls' ≡ with_length ls i n → Reaches ls i
      → length u.old < n → IsSizeOf (version_by ls) area.exponent n → Steps area' ls' (area_with_chunk p i (Some (fitted n u.old)) true)
  grown_p {ls'} {i} n u after valid' lengths r more sized =
      subst (λ a. Steps a ls' (area_with_chunk p i (Some (fitted n u.old)) true)) (sym after) (subst (λ x. Steps (with_written area i (length u.old) (replicate (n - length u.old) 0)) x (area_with_chunk p i (Some (fitted n u.old)) true)) (sym lengths)
      (put_p i _ true (grown area ls i n u.old m u.chunk more sized (subst IsValidArea after valid') r)))

  pub shrunk_p : {area' : AreaMeaning} {ls' : Option (List ℕ)} {i : ℕ} (n : ℕ) (u : InUse i 0) → area' ≡ with_written area i n (replicate 1 0) → IsValidArea area' → ls' ≡ with_length ls i n → Reaches ls i
      → n < length u.old → IsSizeOf (version_by ls) area.exponent n → Steps area' ls' (area_with_chunk p i (Some (fitted n u.old)) true)
  shrunk_p {ls'} {i} n u after valid' lengths r less sized =
      subst (λ a. Steps a ls' (area_with_chunk p i (Some (fitted n u.old)) true)) (sym after) (subst (λ x. Steps (with_written area i n (replicate 1 0)) x (area_with_chunk p i (Some (fitted n u.old)) true)) (sym lengths)
      (put_p i _ true (shrunk area ls i n u.old m u.chunk less sized (subst IsValidArea after valid') r)))

  pub cleaned_p : (area' : AreaMeaning) → area' ≡ with_clean area → IsValidArea area' → Steps area' ls (record p { touched = replicate (length p.touched) false })
  cleaned_p area' after valid' =
      let steps = cleaned area ls m (subst IsValidArea after valid') in
      subst (λ a. Steps a ls (record p { touched = replicate (length p.touched) false })) (sym after)
      (record { is = steps.is ∙ ap (λ (q : SizedAreaMeaning). record q { touched = replicate (length q.touched) false }) v; measured = steps.measured })

-- ---- what a chunk's bytes read as

pub part_of-part : (xs : List ℕ) (a n at k : ℕ) → a + n ≤ length xs → at + k ≤ n → part_of xs (a + at) k ≡ take k (drop at (part_of xs a n))
part_of-part xs a n at k fits within =
    same_lists (part_of xs (a + at) k) (take k (drop at (part_of xs a n)))
    (length-part_of xs (a + at) k (omega arith) ∙ sym (omega (arith, length-take k (drop at (part_of xs a n)), length-drop at (part_of xs a n), length-part_of xs a n fits)))
    (λ j d l.
    let below : j < k = omega (arith, length-part_of xs (a + at) k (omega arith)) in
    get_or-part_of xs (a + at) k j d below
    ∙ (let e : a + at + j ≡ a + (at + j) = omega arith in ap (λ i. get_or xs i d) e)
    ∙ sym (get_or-take k (drop at (part_of xs a n)) j d below ∙ get_or-drop at (part_of xs a n) j d ∙ get_or-part_of xs a n (at + j) d (omega arith)))

pub read_p : (area : AreaMeaning) (ls : Option (List ℕ)) (p : SizedAreaMeaning) {v : place_of area ls ≡ p} {m : IsMeasured area ls} {i : ℕ} (at n : ℕ) (u : InUse v m i (at + n))
    → part_of area.content (chunk_start area i + at) n ≡ take n (drop at u.old)
read_p area ls p {m} {i} at n u =
    let room = chunk_room i m u.is_set in
    let len = u.noted_as in
    let fits = u.fits in
    part_of-part area.content (chunk_start area i) (length u.old) at n (omega arith) fits ∙ sym (ap (λ xs. take n (drop at xs)) u.bytes)

-- the version and the class of a place
pub version_p : (area : AreaMeaning) (ls : Option (List ℕ)) {p : SizedAreaMeaning} (v : place_of area ls ≡ p) (n : ℕ) → p.version ≡ Two → IsSizeOf Two p.exponent n → IsSizeOf (version_by ls) area.exponent n
version_p area ls {p} v n two sized =
    subst (λ (q : SizedAreaMeaning). IsSizeOf q.version q.exponent n) (sym v) (subst (λ w. IsSizeOf w p.exponent n) (sym two) sized)

-- ---- another length

-- the place after chunk i got the length n, and the step that led there
pub record Resized (area : AreaMeaning) (ls : Option (List ℕ)) (p : SizedAreaMeaning) (area' : AreaMeaning) (ls' : Option (List ℕ)) (i n : ℕ) : Type 0 where
  pub old : List ℕ
  pub at : get_or p.chunks i None ≡ Some old
  pub steps : Steps area' ls' (area_with_chunk p i (Some (fitted n old)) true)

pub grows_p : {area : AreaMeaning} (lengths : Option Lengths) {p : SizedAreaMeaning} (v : place_of area (numbers_of lengths) ≡ p) (m : IsMeasured area (numbers_of lengths)) {area' : AreaMeaning} {ls' : Option (List ℕ)} (i n : ℕ) {k : ℕ}
    → MatchOption (get_or p.chunks i None) ⊥ (λ old. length old ≡ n → ⊥) → p.version ≡ Two → IsSizeOf Two p.exponent n → k ≡ len_of area.exponent (numbers_of lengths) i
    → area' ≡ with_written area i k (replicate (n - k) 0) → IsValidArea area' → ls' ≡ with_length (numbers_of lengths) i n → k < n → Resized area (numbers_of lengths) p area' ls' i n
grows_p {area} lengths {p} v m {area'} {ls'} i n {k} another two sized is after valid' noted_as more =
    let u = another_in_use v m i n another in
    let same : k ≡ length u.0.old = is ∙ sym u.0.noted_as in
    record {
      old = u.0.old;
      at = u.0.at;
      steps = grown_p v m n u.0 (after ∙ ap (λ x. with_written area i x (replicate (n - x) 0)) same) valid' noted_as
          (reaches lengths (few_p v m u.0.below)) (omega arith) (version_p area (numbers_of lengths) v n two sized);
    }

pub shrinks_p : {area : AreaMeaning} (lengths : Option Lengths) {p : SizedAreaMeaning} (v : place_of area (numbers_of lengths) ≡ p) (m : IsMeasured area (numbers_of lengths)) {area' : AreaMeaning} {ls' : Option (List ℕ)} (i n : ℕ) {k : ℕ}
    → MatchOption (get_or p.chunks i None) ⊥ (λ old. length old ≡ n → ⊥) → p.version ≡ Two → IsSizeOf Two p.exponent n → k ≡ len_of area.exponent (numbers_of lengths) i
    → area' ≡ with_written area i n (replicate 1 0) → IsValidArea area' → ls' ≡ with_length (numbers_of lengths) i n → n ≤ k → Resized area (numbers_of lengths) p area' ls' i n
shrinks_p {area} lengths {p} v m {area'} {ls'} i n {k} another two sized is after valid' noted_as less =
    let u = another_in_use v m i n another in
    let same : k ≡ length u.0.old = is ∙ sym u.0.noted_as in
    let ne = u.1 in
    record {
      old = u.0.old;
      at = u.0.at;
      steps = shrunk_p v m n u.0 after valid' noted_as
          (reaches lengths (few_p v m u.0.below)) (omega arith) (version_p area (numbers_of lengths) v n two sized);
    }

pub flipped : (b x : Bool) → x ≡ not b → not x ≡ b
flipped true x e = ap not e
flipped false x e = ap not e
