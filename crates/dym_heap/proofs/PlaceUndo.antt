-- A place of which a chunk is put back, or is touched from now on, or isn't any more.
use Rattle.std.proofs.Common.{◌≡◌, ℕ, ◌*◌, ◌<◌, ◌≤◌, inl, inr, Bool, true, false, Option, Some, None, List, length, get_or, set, refl, sym, ap, subst, ◌∙◌, arith, get_or-set_same}
use Rattle.std.proofs.lemmas.Bool.{cases_eq}
use Rattle.dym_base.specs.Numbers.{size, per}
use Rattle.dym_bits.specs.Bits.{bit_in}
use Rattle.dym_region.specs.Content.{part_of, with_part}
use Rattle.dym_area.specs.Area.{AreaMeaning, IsValidArea, with_put_back, with_dirty_at}
use Rattle.dym_heap.specs.Meaning.{IsSizeOf}
use Rattle.dym_heap.specs.SizedAreas.{SizedAreaMeaning, len_of, chunks_in, version_by, place_of, IsMeasured, area_with_chunk, with_length}
use Rattle.dym_heap.proofs.Sizes.{size_fits, chunk_fits, per_fits}
use Rattle.dym_heap.proofs.Loads.{written_whole}
use Rattle.dym_heap.proofs.PlaceSteps.{chunk_of, used_chunk, sized_area-put, set_bit, chunk_same, bytes_same, noted_version, noted_other, noted_here, Reaches}
use Rattle.dym_heap.proofs.PlaceCalls.{Steps}
use Rattle.dym_heap.proofs.PlaceFacts.{below_p}

-- chunk i has the bytes ys, in use or free as it was
back : (area : AreaMeaning) (ls : Option (List ℕ)) (i : ℕ) (ys : List ℕ) → IsMeasured area ls → i < per area.exponent → IsValidArea (with_put_back area i ys)
    → Reaches ls i → IsSizeOf (version_by ls) area.exponent (length ys)
    → Steps (with_put_back area i ys) (with_length ls i (length ys)) (area_with_chunk (place_of area ls) i (Some ys) false)
back area ls i ys is l valid' reaches sized =
    let e : ℕ = area.exponent in
    let n : ℕ = length ys in
    let whole = is.valid.content_len in
    let long = is.valid.used_len in
    let long' = is.valid.dirty_len in
    let in_bits : i < 2048 = omega (arith, l, per_fits is.valid.least) in
    let len : len_of e (with_length ls i n) i ≡ n = noted_here e ls i n reaches sized in
    let small : n ≤ size e = size_fits (version_by ls) e n sized in
    let lies = chunk_fits e i is.valid.greatest l in
    let bit : bit_in (set area.used i true) i ≡ true = get_or-set_same area.used i true false (omega arith) in
    let content' : List ℕ = with_part area.content (i * size e) ys in
    record {
      is = sized_area-put ls (with_length ls i n) (set area.used i true) (set area.dirty i false) content' i
          is.valid valid' (noted_version ls i n) l
          (used_chunk (with_put_back area i ys) (with_length ls i n) i bit
          ∙ ap (λ m. Some (part_of content' (i * size e) m)) len
          ∙ ap Some (written_whole area.content (i * size e) ys (omega arith)))
          (λ k ne. chunk_same area ls (with_length ls i n) (set area.used i true) (set area.dirty i false) content' k (set_bit area.used true ne) (noted_other e ls n ne)
          (bytes_same i 0 (i * size e) ys is l (omega arith) (omega arith) ne))
          (get_or-set_same area.dirty i false false (omega arith))
          (λ k ne. set_bit area.dirty false ne);
      measured = record {
        valid = valid';
        fits = λ k h.
            subst (λ v. IsSizeOf v e (len_of e (with_length ls i n) k)) (sym (noted_version ls i n))
            (elim (cases_eq k i) as (λ _. IsSizeOf (version_by ls) e (len_of e (with_length ls i n) k)) [
              | inl same ↦ subst (IsSizeOf (version_by ls) e) (sym (ap (λ j. len_of e (with_length ls i n) j) same ∙ len)) sized
              | inr ne ↦ subst (IsSizeOf (version_by ls) e) (sym (noted_other e ls n ne)) (is.fits k (sym (set_bit area.used true ne) ∙ h))
            ]);
      };
    }

-- chunk i is touched or isn't, as b says
marked : (area : AreaMeaning) (ls : Option (List ℕ)) (i : ℕ) (b : Bool) → IsMeasured area ls → i < per area.exponent → IsValidArea (with_dirty_at area i b)
    → Steps (with_dirty_at area i b) ls (area_with_chunk (place_of area ls) i (get_or (chunks_in area ls) i None) b)
marked area ls i b is l valid' =
    let long' = is.valid.dirty_len in
    let in_bits : i < 2048 = omega (arith, l, per_fits is.valid.least) in
    record {
      is = sized_area-put ls ls area.used (set area.dirty i b) area.content i is.valid valid' refl l (sym (chunk_of ls i is.valid)) (λ k ne. refl)
          (get_or-set_same area.dirty i b false (omega arith))
          (λ k ne. set_bit area.dirty b ne);
      measured = record { valid = valid'; fits = is.fits };
    }

module _ {area : AreaMeaning} {ls : Option (List ℕ)} {p : SizedAreaMeaning} (v : place_of area ls ≡ p) (m : IsMeasured area ls) where
  -- a length of the place's class
  pub sized_p : (n : ℕ) → IsSizeOf p.version p.exponent n → IsSizeOf (version_by ls) area.exponent n
  sized_p n sized = subst (λ (q : SizedAreaMeaning). IsSizeOf q.version q.exponent n) (sym v) sized

  pub fits_p : (n : ℕ) → IsSizeOf p.version p.exponent n → n ≤ size area.exponent
  fits_p n sized = size_fits (version_by ls) area.exponent n (sized_p n sized)

  pub back_p : {area' : AreaMeaning} {ls' : Option (List ℕ)} (i : ℕ) (ys : List ℕ) → area' ≡ with_put_back area i ys → IsValidArea area'
      → ls' ≡ with_length ls i (length ys) → Reaches ls i → i < length p.chunks → IsSizeOf p.version p.exponent (length ys)
      → Steps area' ls' (area_with_chunk p i (Some ys) false)
  back_p {ls'} i ys after valid' lengths reaches l sized =
      let steps = back area ls i ys m (below_p v m l) (subst IsValidArea after valid') reaches (sized_p (length ys) sized) in
      subst (λ a. Steps a ls' (area_with_chunk p i (Some ys) false)) (sym after)
      (subst (λ x. Steps (with_put_back area i ys) x (area_with_chunk p i (Some ys) false)) (sym lengths)
      (record { is = steps.is ∙ ap (λ q. area_with_chunk q i (Some ys) false) v; measured = steps.measured }))

  pub marked_p : (area' : AreaMeaning) (i : ℕ) (b : Bool) → area' ≡ with_dirty_at area i b → IsValidArea area' → i < per area.exponent
      → Steps area' ls (area_with_chunk p i (get_or p.chunks i None) b)
  marked_p area' i b after valid' l =
      let steps = marked area ls i b m l (subst IsValidArea after valid') in
      subst (λ a. Steps a ls (area_with_chunk p i (get_or p.chunks i None) b)) (sym after)
      (record { is = steps.is ∙ ap (λ (q : SizedAreaMeaning). area_with_chunk q i (get_or q.chunks i None) b) v; measured = steps.measured })
