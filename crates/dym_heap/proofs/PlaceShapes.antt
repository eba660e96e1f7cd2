-- A place that gets the use bits of a bitmap.
use Rattle.std.proofs.Common.{◌≡◌, ℕ, zero, suc, ◌-◌, ◌*◌, ◌^◌, ◌<◌, ◌≤◌, ◌⊎◌, ◌&&◌, ◌||◌, inl, inr, Bool, true, false, not, is_some, Option, Some, None, List, ◌++◌, length, get_or, replicate, eqb, refl, sym, ap, subst, ◌∙◌, arith}
use Rattle.std.specs.List.{flat_map}
use Rattle.std.proofs.lemmas.Bool.{cases_eq, cases_lt}
use Rattle.std.proofs.lemmas.List.{get_or_past, get_or_append_left, get_or-append_right}
use Rattle.std.proofs.lemmas.List.FromFn.{length-map-range_with_len, get_or-map-range_with_len}
use Rattle.std.proofs.lemmas.Nat.Bits.{bit_at-zero}
use Rattle.std.proofs.Math.Pow.{pow-lt}
use Rattle.dym_base.specs.Numbers.{size}
use Rattle.dym_base.proofs.Classes.{cls_is}
use Rattle.dym_base.specs.declared.command.Version.{Version}
use Rattle.dym_base.specs.declared.command.Version.TheVariants.{One, Two}
use Rattle.dym_region.specs.Content.{part_of}
use Rattle.dym_bits.specs.Bits.{bit_in, bits_of, digits, digit, bits_of_bytes, IsSet, IsClear}
use Rattle.dym_area.specs.Area.{AreaMeaning, IsValidArea, with_used_bytes}
use Rattle.dym_heap.specs.Meaning.{IsSizeOf}
use Rattle.dym_heap.specs.SizedAreas.{SizedAreaMeaning, len_of, chunk_in, chunks_in, touched_in, version_by, place_of, IsMeasured}
use Rattle.dym_heap.specs.Fetches.{area_chunk, marked, IsReshaped}
use Rattle.dym_heap.proofs.Wants.{both_first}
use Rattle.dym_heap.proofs.Sizes.{per_fits}
use Rattle.dym_heap.proofs.PlaceCalls.{chunks_clean}
use Rattle.dym_heap.proofs.PlaceSteps.{chunk_of, used_chunk, some_used, mark_of}

-- the size of a class is a length of it
pub size_of_two : (v : Version) (e : ℕ) → 5 ≤ e → e ≤ 16 → IsSizeOf v e (size e)
size_of_two One e low high = refl
size_of_two Two e low high =
    cls_is (size e) e low high
    (elim (cases_eq e 5) as (λ _. (e ≡ 5) ⊎ (2 ^ (e - 1) < size e)) [ inl five ↦ inl five | inr ne ↦ inr (pow-lt {i = e - 1} {j = e} (omega arith)) ])
    (omega arith)

-- a bit that stays out of others without some is among those
kept_bit : (a b : Bool) → a ≡ true → (a && not b) ≡ false → b ≡ true
kept_bit true true h none = refl
kept_bit true false h none = absurd cc
kept_bit false b h none = absurd cc

module _ {area : AreaMeaning} {ls : Option (List ℕ)} {p : SizedAreaMeaning} (v : place_of area ls ≡ p) (m : IsMeasured area ls) {mid area' : AreaMeaning} (ls' : Option (List ℕ)) (bytes : List ℕ) (unmodified wanted : List Bool)
    (valid' : IsValidArea area') (first : mid ≡ with_used_bytes area bytes) (bits : (i : ℕ) → bit_in mid.used i ≡ bit_in (bits_of_bytes bytes) i) (second : area' ≡ record mid { dirty = wanted })
    (settled_is : (i : ℕ) → bit_in unmodified i ≡ (bit_in area.used i && not (bit_in area.dirty i))) (wanted_is : (i : ℕ) → bit_in wanted i ≡ (bit_in mid.used i && not (bit_in unmodified i)))
    (same : version_by ls' ≡ version_by ls) (news : (i : ℕ) → i < 2048 → IsSet wanted i → len_of area.exponent ls' i ≡ size area.exponent) (olds : (i : ℕ) → IsClear wanted i → len_of area.exponent ls' i ≡ len_of area.exponent ls i) where
  exponent' : area'.exponent ≡ area.exponent
  exponent' = ap (λ (a : AreaMeaning). a.exponent) second ∙ ap (λ (a : AreaMeaning). a.exponent) first

  content' : area'.content ≡ area.content
  content' = ap (λ (a : AreaMeaning). a.content) second ∙ ap (λ (a : AreaMeaning). a.content) first

  used' : (i : ℕ) → bit_in area'.used i ≡ bit_in (bits_of_bytes bytes) i
  used' i = ap (λ (a : AreaMeaning). bit_in a.used i) second ∙ bits i

  dirty' : (i : ℕ) → bit_in area'.dirty i ≡ bit_in wanted i
  dirty' i = ap (λ (a : AreaMeaning). bit_in a.dirty i) second

  -- a chunk that is in use now and not wanted was in use and not touched
  was_settled : (i : ℕ) → IsSet area'.used i → IsClear wanted i → IsSet unmodified i
  was_settled i h clear = kept_bit (bit_in mid.used i) (bit_in unmodified i) (sym (ap (λ (a : AreaMeaning). bit_in a.used i) second) ∙ h) (sym (wanted_is i) ∙ clear)

  was_used : (i : ℕ) → IsSet area'.used i → IsClear wanted i → IsSet area.used i
  was_used i h clear = both_first (bit_in area.used i) (not (bit_in area.dirty i)) (sym (settled_is i) ∙ was_settled i h clear)

  pub shaped_measured : IsMeasured area' ls'
  shaped_measured = record {
    valid = valid';
    fits = λ i h.
        let l = valid'.used_below i h in
        let few = per_fits valid'.least in
        subst (λ e. IsSizeOf (version_by ls') e (len_of e ls' i)) (sym exponent')
        (elim (bit_in wanted i) as (λ b. bit_in wanted i ≡ b → IsSizeOf (version_by ls') area.exponent (len_of area.exponent ls' i)) [
          | true ↦ λ w. subst (IsSizeOf (version_by ls') area.exponent) (sym (news i (omega arith) w)) (size_of_two (version_by ls') area.exponent m.valid.least m.valid.greatest)
          | false ↦ λ w. subst (λ x. IsSizeOf x area.exponent (len_of area.exponent ls' i)) (sym same) (subst (IsSizeOf (version_by ls) area.exponent) (sym (olds i w)) (m.fits i (was_used i h w)))
        ] refl);
  }

  shaped_same : place_of area' ls' ≡ record p { chunks = (place_of area' ls').chunks; touched = (place_of area' ls').touched }
  shaped_same = λ j. record {
    version = (same ∙ ap (λ (q : SizedAreaMeaning). q.version) v) j;
    exponent = (exponent' ∙ ap (λ (q : SizedAreaMeaning). q.exponent) v) j;
    ordinal = (ap (λ (a : AreaMeaning). a.ordinal) second ∙ ap (λ (a : AreaMeaning). a.ordinal) first ∙ ap (λ (q : SizedAreaMeaning). q.ordinal) v) j;
    identity = (ap (λ (a : AreaMeaning). a.identity) second ∙ ap (λ (a : AreaMeaning). a.identity) first ∙ ap (λ (q : SizedAreaMeaning). q.identity) v) j;
    chunks = (place_of area' ls').chunks;
    touched = (place_of area' ls').touched;
  }

  old_chunk : (i : ℕ) → get_or p.chunks i None ≡ chunk_in area ls i
  old_chunk i = sym (ap (λ (q : SizedAreaMeaning). get_or q.chunks i None) v) ∙ chunk_of ls i m.valid

  old_mark : (i : ℕ) → get_or p.touched i false ≡ bit_in area.dirty i
  old_mark i = sym (ap (λ (q : SizedAreaMeaning). get_or q.touched i false) v) ∙ mark_of i m.valid

  -- a chunk that is in use now and not wanted keeps its bytes
  kept_chunk : (i : ℕ) → IsSet area'.used i → IsClear wanted i → chunk_in area' ls' i ≡ chunk_in area ls i
  kept_chunk i h clear =
      used_chunk area' ls' i h
      ∙ (λ j. Some (part_of (content' j) (i * size (exponent' j)) (len_of (exponent' j) ls' i)))
      ∙ ap (λ n. Some (part_of area.content (i * size area.exponent) n)) (olds i clear)
      ∙ sym (used_chunk area ls i (was_used i h clear))

  shaped_chunk : (i : ℕ) → IsReshaped (bit_in (bits_of_bytes bytes) i) (area_chunk p i) (area_chunk (place_of area' ls') i)
  shaped_chunk i =
      let mark : get_or (touched_in area') i false ≡ bit_in wanted i = mark_of i valid' ∙ dirty' i in
      let now : is_some (chunk_in area' ls' i) ≡ bit_in (bits_of_bytes bytes) i = some_used area' ls' i ∙ used' i in
      let was : bit_in unmodified i ≡ (is_some (get_or p.chunks i None) && not (get_or p.touched i false)) =
      settled_is i ∙ sym (λ j. (ap is_some (old_chunk i) ∙ some_used area ls i) j && not (old_mark i j)) in
      record {
        used = ap is_some (chunk_of ls' i valid') ∙ now;
        wanted = mark ∙ wanted_is i ∙ (λ j. bits i j && not (was j));
        kept = λ live quiet. chunk_of ls' i valid' ∙ kept_chunk i (used' i ∙ live) (sym mark ∙ quiet) ∙ sym (old_chunk i);
      }

  pub shaped : IsMeasured area' ls' × (place_of area' ls' ≡ record p { chunks = (place_of area' ls').chunks; touched = (place_of area' ls').touched })
      × ((i : ℕ) → IsReshaped (bit_in (bits_of_bytes bytes) i) (area_chunk p i) (area_chunk (place_of area' ls') i))
  shaped = (shaped_measured, shaped_same, shaped_chunk)

pub lens_none : (e i : ℕ) {ls : Option (List ℕ)} → ls ≡ None → len_of e ls i ≡ size e
lens_none e i none = ap (λ x. len_of e x i) none

-- ---- other chunks are touched

module _ {area : AreaMeaning} {ls : Option (List ℕ)} {p : SizedAreaMeaning} (v : place_of area ls ≡ p) (m : IsMeasured area ls) {area' : AreaMeaning} (bits : List Bool) (after : area' ≡ record area { dirty = bits }) (valid' : IsValidArea area') where
  pub touched_measured : IsMeasured area' ls
  touched_measured = subst (λ a. IsMeasured a ls) (sym after) (record { valid = subst IsValidArea after valid'; fits = m.fits })

  pub touched_same : place_of area' ls ≡ record p { touched = touched_in area' }
  touched_same = λ j. record {
    version = ap (λ (q : SizedAreaMeaning). q.version) v j;
    exponent = (ap (λ (a : AreaMeaning). a.exponent) after ∙ ap (λ (q : SizedAreaMeaning). q.exponent) v) j;
    ordinal = (ap (λ (a : AreaMeaning). a.ordinal) after ∙ ap (λ (q : SizedAreaMeaning). q.ordinal) v) j;
    identity = (ap (λ (a : AreaMeaning). a.identity) after ∙ ap (λ (q : SizedAreaMeaning). q.identity) v) j;
    chunks = (ap (λ (a : AreaMeaning). chunks_in a ls) after ∙ chunks_clean area bits ls ∙ ap (λ (q : SizedAreaMeaning). q.chunks) v) j;
    touched = touched_in area';
  }

  pub touched_marks : (i : ℕ) → get_or (touched_in area') i false ≡ bit_in bits i
  touched_marks i = mark_of i valid' ∙ ap (λ (a : AreaMeaning). bit_in a.dirty i) after

-- the dirty chunks and some of those in use are in use
pub dirty_or_used : (area : AreaMeaning) (packed both bits : List Bool) → IsValidArea area → ((i : ℕ) → bit_in both i ≡ (bit_in area.used i && bit_in packed i)) → ((i : ℕ) → bit_in bits i ≡ (bit_in area.dirty i || bit_in both i))
    → (i : ℕ) → IsSet bits i → IsSet area.used i
dirty_or_used area packed both bits valid both_is bits_is i h =
    elim (bit_in area.dirty i) as (λ b. bit_in area.dirty i ≡ b → IsSet area.used i) [
      | true ↦ λ d. valid.dirty_used i d
      | false ↦ λ d. both_first (bit_in area.used i) (bit_in packed i) (sym (both_is i) ∙ sym (bits_is i ∙ ap (λ b. b || bit_in both i) d) ∙ h)
    ] refl

module _ {area : AreaMeaning} {ls : Option (List ℕ)} {p : SizedAreaMeaning} (v : place_of area ls ≡ p) (m : IsMeasured area ls) {area' : AreaMeaning} (bits packed both : List Bool) (after : area' ≡ record area { dirty = bits }) (valid' : IsValidArea area')
    (both_is : (i : ℕ) → bit_in both i ≡ (bit_in area.used i && bit_in packed i)) (bits_is : (i : ℕ) → bit_in bits i ≡ (bit_in area.dirty i || bit_in both i)) where
  pub marked_chunk : (i : ℕ) → area_chunk (place_of area' ls) i ≡ marked (bit_in packed i) (area_chunk p i)
  marked_chunk i =
      let same = touched_same v m bits after valid' in
      let chunk : get_or p.chunks i None ≡ chunk_in area ls i = sym (ap (λ (q : SizedAreaMeaning). get_or q.chunks i None) v) ∙ chunk_of ls i m.valid in
      let used : is_some (get_or p.chunks i None) ≡ bit_in area.used i = ap is_some chunk ∙ some_used area ls i in
      let mark : get_or p.touched i false ≡ bit_in area.dirty i = sym (ap (λ (q : SizedAreaMeaning). get_or q.touched i false) v) ∙ mark_of i m.valid in
      let now : get_or (touched_in area') i false ≡ (get_or p.touched i false || (is_some (get_or p.chunks i None) && bit_in packed i)) =
      touched_marks v m bits after valid' i ∙ bits_is i ∙ ap (λ b. bit_in area.dirty i || b) (both_is i) ∙ sym (λ j. mark j || (used j && bit_in packed i)) in
      λ j. record { bytes = get_or (same j).chunks i None; touched = now j }

-- ---- a bitmap of zeros

zero_digits : (k r : ℕ) → get_or (digits k 0) r false ≡ false
unfolding digits
zero_digits k r =
    elim (cases_lt r k) as (λ _. get_or (digits k 0) r false ≡ false) [
      | inl l ↦ get_or-map-range_with_len (digit 0) 0 k r r false l (omega arith) ∙ ap (λ n. eqb n 1) (bit_at-zero r)
      | inr past ↦ get_or_past (digits k 0) r false (omega (arith, length-map-range_with_len (digit 0) 0 k))
    ]

digits_len : (k n : ℕ) → length (digits k n) ≡ k
unfolding digits
digits_len k n = length-map-range_with_len (digit n) 0 k

pub zero_bits : (n i : ℕ) → bit_in (bits_of_bytes (replicate n 0)) i ≡ false
unfolding bits_of
zero_bits zero i = refl
zero_bits (suc n) i =
    let rest : List Bool = flat_map (digits 8) (replicate n 0) in
    elim (cases_lt i 8) as (λ _. get_or (digits 8 0 ++ rest) i false ≡ false) [
      | inl l ↦ get_or_append_left (digits 8 0) rest false i (let d = digits_len 8 0 in omega arith) ∙ zero_digits 8 i
      | inr past ↦ get_or-append_right (digits 8 0) rest 8 i false (digits_len 8 0) past ∙ zero_bits n (i - 8)
    ]
