-- The chunks of a place after a step of its area.
use Rattle.std.proofs.Common.{◌≡◌, ℕ, ◌+◌, ◌*◌, ◌<◌, ◌≤◌, ◌⊎◌, inl, inr, Bool, true, false, cond, is_some, Option, Some, None, List, length, get_or, set, refl, sym, ap, subst, ◌∙◌, arith, length-set, length-take, get_or-set_same, get_or-set_other, get_or-take}
use Rattle.std.proofs.lemmas.Bool.{cases_eq, cases_lt}
use Rattle.std.proofs.lemmas.List.{ext_get_or, get_or_past}
use Rattle.std.proofs.lemmas.List.FromFn.{length-map-range_with_len, get_or-map-range_with_len}
use Rattle.dym_base.specs.Numbers.{size, per}
use Rattle.dym_bits.specs.Bits.{bit_in, IsSet, IsClear}
use Rattle.dym_region.specs.Content.{part_of, with_part}
use Rattle.dym_area.specs.Area.{AreaMeaning, IsValidArea, chunk_start}
use Rattle.dym_heap.specs.Meaning.{IsSizeOf}
use Rattle.dym_heap.specs.SizedAreas.{len_of, chunk_in, chunks_in, touched_in, version_by, place_of, IsMeasured, IsSizedArea, area_with_chunk, with_length}
use Rattle.dym_heap.proofs.Parts.{length-part_of, part_of-apart}
use Rattle.dym_heap.proofs.Sizes.{size_fits, chunk_fits, chunks_apart, per_fits}

-- ---- a place by its chunks

pub length-chunks_in : (area : AreaMeaning) (ls : Option (List ℕ)) → length (chunks_in area ls) ≡ per area.exponent
unfolding chunks_in
length-chunks_in area ls = length-map-range_with_len (chunk_in area ls) 0 (per area.exponent)

unset : (bits : List Bool) (i n : ℕ) → ((k : ℕ) → IsSet bits k → k < n) → n ≤ i → IsClear bits i
unset bits i n below past =
    elim (bit_in bits i) as (λ b. bit_in bits i ≡ b → b ≡ false) [ true ↦ λ h. (let l = below i h in absurd (omega arith)) | false ↦ λ h. refl ] refl

pub chunk_of : {area : AreaMeaning} (ls : Option (List ℕ)) (i : ℕ) → IsValidArea area → get_or (chunks_in area ls) i None ≡ chunk_in area ls i
unfolding chunks_in
chunk_of {area} ls i valid =
    elim (cases_lt i (per area.exponent)) as (λ _. get_or (chunks_in area ls) i None ≡ chunk_in area ls i) [
      | inl l ↦ get_or-map-range_with_len (chunk_in area ls) 0 (per area.exponent) i i None l (omega arith)
      | inr past ↦
          get_or_past (chunks_in area ls) i None (omega (arith, length-chunks_in area ls))
          ∙ sym (ap (λ b. cond b (Some (part_of area.content (chunk_start area i) (len_of area.exponent ls i))) None) (unset area.used i (per area.exponent) valid.used_below past))
    ]

pub length-touched_in : {area : AreaMeaning} → IsValidArea area → length (touched_in area) ≡ per area.exponent
unfolding touched_in
length-touched_in {area} valid = let long = valid.dirty_len in omega (arith, length-take (per area.exponent) area.dirty, per_fits valid.least)

pub mark_of : {area : AreaMeaning} (i : ℕ) → IsValidArea area → get_or (touched_in area) i false ≡ bit_in area.dirty i
unfolding touched_in
mark_of {area} i valid =
    elim (cases_lt i (per area.exponent)) as (λ _. get_or (touched_in area) i false ≡ bit_in area.dirty i) [
      | inl l ↦ get_or-take (per area.exponent) area.dirty i false l
      | inr past ↦
          get_or_past (touched_in area) i false (omega (arith, length-touched_in valid))
          ∙ sym (unset area.dirty i (per area.exponent) (λ k h. valid.used_below k (valid.dirty_used k h)) past)
    ]

pub used_chunk : (area : AreaMeaning) (ls : Option (List ℕ)) (i : ℕ) → IsSet area.used i → chunk_in area ls i ≡ Some (part_of area.content (chunk_start area i) (len_of area.exponent ls i))
used_chunk area ls i h = ap (λ b. cond b (Some (part_of area.content (chunk_start area i) (len_of area.exponent ls i))) None) h

pub unused_chunk : (area : AreaMeaning) (ls : Option (List ℕ)) (i : ℕ) → IsClear area.used i → chunk_in area ls i ≡ None
unused_chunk area ls i h = ap (λ b. cond b (Some (part_of area.content (chunk_start area i) (len_of area.exponent ls i))) None) h

pub some_used : (area : AreaMeaning) (ls : Option (List ℕ)) (i : ℕ) → is_some (chunk_in area ls i) ≡ bit_in area.used i
some_used area ls i = elim (bit_in area.used i) as (λ b. is_some (cond b (Some (part_of area.content (chunk_start area i) (len_of area.exponent ls i))) None) ≡ b) [ true ↦ refl | false ↦ refl ]

-- the bytes of a chunk in use lie in its area
pub chunk_room : {area : AreaMeaning} {ls : Option (List ℕ)} (i : ℕ) → IsMeasured area ls → IsSet area.used i → chunk_start area i + len_of area.exponent ls i ≤ length area.content
chunk_room {area} {ls} i is h =
    let whole = is.valid.content_len in
    let fits = size_fits (version_by ls) area.exponent (len_of area.exponent ls i) (is.fits i h) in
    let lies = chunk_fits area.exponent i is.valid.greatest (is.valid.used_below i h) in
    omega arith

pub length_of_chunk : {area : AreaMeaning} {ls : Option (List ℕ)} (i : ℕ) (bytes : List ℕ) → IsMeasured area ls → chunk_in area ls i ≡ Some bytes → length bytes ≡ len_of area.exponent ls i
length_of_chunk {area} {ls} i bytes is e =
    let h : IsSet area.used i = sym (some_used area ls i) ∙ ap is_some e in
    let same : part_of area.content (chunk_start area i) (len_of area.exponent ls i) ≡ bytes = (let u = used_chunk area ls i h in cc) in
    sym (ap length same) ∙ length-part_of area.content (chunk_start area i) (len_of area.exponent ls i) (chunk_room i is h)

pub is_place : {area : AreaMeaning} {ls : Option (List ℕ)} → IsMeasured area ls → IsSizedArea (place_of area ls)
is_place {area} {ls} is = record {
  least = is.valid.least;
  most = is.valid.greatest;
  whole = length-chunks_in area ls;
  marks = length-touched_in is.valid ∙ sym (length-chunks_in area ls);
  sized = λ i bytes e.
      let at : chunk_in area ls i ≡ Some bytes = sym (chunk_of ls i is.valid) ∙ e in
      let h : IsSet area.used i = sym (some_used area ls i) ∙ ap is_some at in
      subst (IsSizeOf (version_by ls) area.exponent) (sym (length_of_chunk i bytes is at)) (is.fits i h);
  touched_used = λ i e. ap is_some (chunk_of ls i is.valid) ∙ some_used area ls i ∙ is.valid.dirty_used i (sym (mark_of i is.valid) ∙ e);
}

-- a list that agrees with another after a write
ext : (new old : List (Option (List ℕ))) (i : ℕ) (x : Option (List ℕ)) (n : ℕ) → length new ≡ n → length old ≡ n → i < n → get_or new i None ≡ x
    → ((k : ℕ) → (k ≡ i → ⊥) → get_or new k None ≡ get_or old k None) → new ≡ set old i x
ext new old i x n long long' l here others =
    ext_get_or None new (set old i x) (omega (arith, length-set old i x)) (λ k within.
    elim (cases_eq k i) as (λ _. get_or new k None ≡ get_or (set old i x) k None) [
      | inl same ↦ ap (λ j. get_or new j None) same ∙ here ∙ sym (ap (λ j. get_or (set old i x) j None) same ∙ get_or-set_same old i x None (omega arith))
      | inr ne ↦ others k ne ∙ sym (get_or-set_other old i k x None ne)
    ])

ext_marks : (new old : List Bool) (i : ℕ) (x : Bool) (n : ℕ) → length new ≡ n → length old ≡ n → i < n → get_or new i false ≡ x
    → ((k : ℕ) → (k ≡ i → ⊥) → get_or new k false ≡ get_or old k false) → new ≡ set old i x
ext_marks new old i x n long long' l here others =
    ext_get_or false new (set old i x) (omega (arith, length-set old i x)) (λ k within.
    elim (cases_eq k i) as (λ _. get_or new k false ≡ get_or (set old i x) k false) [
      | inl same ↦ ap (λ j. get_or new j false) same ∙ here ∙ sym (ap (λ j. get_or (set old i x) j false) same ∙ get_or-set_same old i x false (omega arith))
      | inr ne ↦ others k ne ∙ sym (get_or-set_other old i k x false ne)
    ])

-- ---- one chunk of a place changes

-- the area with other bits and bytes
abbrev pub altered : AreaMeaning → List Bool → List Bool → List ℕ → AreaMeaning
altered area used dirty content = record area { used = used; dirty = dirty; content = content }

pub sized_area-put : {area : AreaMeaning} (ls ls' : Option (List ℕ)) (used dirty : List Bool) (content : List ℕ) (i : ℕ) {x : Option (List ℕ)} {b : Bool}
    → IsValidArea area → IsValidArea (altered area used dirty content) → version_by ls' ≡ version_by ls → i < per area.exponent
    → chunk_in (altered area used dirty content) ls' i ≡ x → ((k : ℕ) → (k ≡ i → ⊥) → chunk_in (altered area used dirty content) ls' k ≡ chunk_in area ls k)
    → bit_in dirty i ≡ b → ((k : ℕ) → (k ≡ i → ⊥) → bit_in dirty k ≡ bit_in area.dirty k)
    → place_of (altered area used dirty content) ls' ≡ area_with_chunk (place_of area ls) i x b
sized_area-put {area} ls ls' used dirty content i {x} {b} valid valid' same l here others mark marks =
    let new : AreaMeaning = altered area used dirty content in
    let chunks : chunks_in new ls' ≡ set (chunks_in area ls) i x =
    ext (chunks_in new ls') (chunks_in area ls) i x (per area.exponent) (length-chunks_in new ls') (length-chunks_in area ls) l
    (chunk_of ls' i valid' ∙ here) (λ k ne. chunk_of ls' k valid' ∙ others k ne ∙ sym (chunk_of ls k valid)) in
    let touches : touched_in new ≡ set (touched_in area) i b =
    ext_marks (touched_in new) (touched_in area) i b (per area.exponent) (length-touched_in valid') (length-touched_in valid) l
    (mark_of i valid' ∙ mark) (λ k ne. mark_of k valid' ∙ marks k ne ∙ sym (mark_of k valid)) in
    λ j. record { version = same j; exponent = area.exponent; ordinal = area.ordinal; identity = area.identity; chunks = chunks j; touched = touches j }

-- ---- bits

pub set_bit : (bits : List Bool) {i k : ℕ} (b : Bool) → (k ≡ i → ⊥) → bit_in (set bits i b) k ≡ bit_in bits k
set_bit bits {i} {k} b ne = get_or-set_other bits i k b false ne

-- a chunk that a step leaves alone
pub chunk_same : (area : AreaMeaning) (ls ls' : Option (List ℕ)) (used dirty : List Bool) (content : List ℕ) (k : ℕ) → bit_in used k ≡ bit_in area.used k
    → len_of area.exponent ls' k ≡ len_of area.exponent ls k
    → (IsSet area.used k → part_of content (k * size area.exponent) (len_of area.exponent ls k) ≡ part_of area.content (k * size area.exponent) (len_of area.exponent ls k))
    → chunk_in (altered area used dirty content) ls' k ≡ chunk_in area ls k
chunk_same area ls ls' used dirty content k bit len bytes =
    elim (bit_in area.used k) as (λ b. bit_in area.used k ≡ b → chunk_in (altered area used dirty content) ls' k ≡ chunk_in area ls k) [
      | true ↦ λ h.
          used_chunk (altered area used dirty content) ls' k (bit ∙ h)
          ∙ ap (λ n. Some (part_of content (k * size area.exponent) n)) len ∙ ap Some (bytes h)
          ∙ sym (used_chunk area ls k h)
      | false ↦ λ h. unused_chunk (altered area used dirty content) ls' k (bit ∙ h) ∙ sym (unused_chunk area ls k h)
    ] refl

-- the bytes of another chunk are not those that a step writes into chunk i
pub bytes_same : {area : AreaMeaning} {ls : Option (List ℕ)} (i : ℕ) {k : ℕ} (at s : ℕ) (ys : List ℕ) → IsMeasured area ls → i < per area.exponent → at + length ys ≤ size area.exponent → s ≡ i * size area.exponent + at
    → (k ≡ i → ⊥) → IsSet area.used k → part_of (with_part area.content s ys) (k * size area.exponent) (len_of area.exponent ls k) ≡ part_of area.content (k * size area.exponent) (len_of area.exponent ls k)
bytes_same {area} {ls} i {k} at s ys is l within is_at ne h =
    let whole = is.valid.content_len in
    let lies = chunk_fits area.exponent i is.valid.greatest l in
    let fits = size_fits (version_by ls) area.exponent (len_of area.exponent ls k) (is.fits k h) in
    let room = chunk_room k is h in
    part_of-apart area.content (k * size area.exponent) (len_of area.exponent ls k) s ys room (omega arith)
    (elim (chunks_apart area.exponent ne) as (λ _. (k * size area.exponent + len_of area.exponent ls k ≤ s) ⊎ (s + length ys ≤ k * size area.exponent)) [
      | inl low ↦ inl (omega arith)
      | inr high ↦ inr (omega arith)
    ])

-- ---- the lengths that are noted

pub noted_version : (ls : Option (List ℕ)) (i n : ℕ) → version_by (with_length ls i n) ≡ version_by ls
noted_version None i n = refl
noted_version (Some ns) i n = refl

pub noted_other : (e : ℕ) (ls : Option (List ℕ)) {i : ℕ} (n : ℕ) {k : ℕ} → (k ≡ i → ⊥) → len_of e (with_length ls i n) k ≡ len_of e ls k
noted_other e None n ne = refl
noted_other e (Some ns) {i} n {k} ne = get_or-set_other ns i k n 0 ne

-- the table of lengths reaches as far as the chunks
abbrev pub Reaches : Option (List ℕ) → ℕ → Type 0
Reaches None i = Unit {0}
Reaches (Some ns) i = i < length ns

pub noted_here : (e : ℕ) (ls : Option (List ℕ)) (i n : ℕ) → Reaches ls i → IsSizeOf (version_by ls) e n → len_of e (with_length ls i n) i ≡ n
noted_here e None i n r is = sym is
noted_here e (Some ns) i n r is = get_or-set_same ns i n 0 r
