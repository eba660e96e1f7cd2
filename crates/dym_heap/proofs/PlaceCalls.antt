-- What each call of an area means for its place.
use Rattle.std.proofs.Common.{◌≡◌, ℕ, zero, suc, ◌+◌, ◌-◌, ◌*◌, ◌<◌, ◌≤◌, inl, inr, Bool, true, false, is_some, Option, Some, None, List, [], ◌++◌, length, set, take, drop, replicate, refl, sym, ap, subst, ◌∙◌, arith, get_or-set_same}
use Rattle.std.proofs.lemmas.Bool.{cases_eq}
use Rattle.std.proofs.lemmas.List.{length-replicate, append-nil, take-take, drop_all, take_all, take-replicate, set-get_or, ext_get_or, get_or-replicate}
use Rattle.dym_region.specs.declared.segment.SegmentId.{SegmentId}
use Rattle.dym_base.specs.Numbers.{size, per}
use Rattle.dym_base.specs.HeapStep.{splice, fitted}
use Rattle.dym_base.specs.declared.command.Version.{Version}
use Rattle.dym_base.specs.declared.limits.TheConstants.{MOST_CHUNKS}
use Rattle.dym_bits.specs.Bits.{bit_in, IsSet, IsClear, IsFirstClear, clear_bits}
use Rattle.dym_region.specs.Content.{part_of, with_part}
use Rattle.dym_area.specs.Area.{AreaMeaning, IsValidArea, dirty_after, with_taken, with_released, with_written, with_clean}
use Rattle.dym_heap.specs.Meaning.{IsSizeOf}
use Rattle.dym_heap.specs.SizedAreas.{SizedAreaMeaning, len_of, chunk_in, chunks_in, touched_in, version_by, place_of, IsMeasured, area_with_chunk, IsFreeIn, with_length}
use Rattle.dym_heap.proofs.Parts.{length-part_of, part_of-apart, part_of-inside, part_of-filled}
use Rattle.dym_heap.proofs.Sizes.{size_fits, chunk_fits, per_fits}
use Rattle.dym_heap.proofs.PlaceSteps.{length-chunks_in, length-touched_in, chunk_of, mark_of, used_chunk, unused_chunk, some_used, chunk_room, length_of_chunk, sized_area-put, set_bit, chunk_same, bytes_same, noted_version, noted_other, noted_here, Reaches}

-- the place after a step, and that its lengths still fit
pub record Steps (area' : AreaMeaning) (ls' : Option (List ℕ)) (p : SizedAreaMeaning) : Type 0 where
  pub is : place_of area' ls' ≡ p
  pub measured : IsMeasured area' ls'

long_enough : {e i : ℕ} → 5 ≤ e → i < per e → i < 2048
long_enough {e} low l = omega (arith, per_fits low)

-- ---- a chunk is taken

pub first_free : (area : AreaMeaning) (ls : Option (List ℕ)) (i : ℕ) → IsValidArea area → IsFirstClear area.used (per area.exponent) i → IsFreeIn (chunks_in area ls) i
first_free area ls i valid first = record {
  within = (let b = first.below in omega (arith, length-chunks_in area ls));
  free = chunk_of ls i valid ∙ unused_chunk area ls i first.is_clear;
  least = λ k l. ap is_some (chunk_of ls k valid) ∙ some_used area ls k ∙ first.least k l;
}

pub taken : (area : AreaMeaning) (ls : Option (List ℕ)) (i n : ℕ) → IsMeasured area ls → i < per area.exponent → IsValidArea (with_taken area i) → Reaches ls i → IsSizeOf (version_by ls) area.exponent n
    → Steps (with_taken area i) (with_length ls i n) (area_with_chunk (place_of area ls) i (Some (replicate n 0)) true)
taken area ls i n is l valid' reaches sized =
    let e : ℕ = area.exponent in
    let whole = is.valid.content_len in
    let long = is.valid.used_len in
    let long' = is.valid.dirty_len in
    let in_bits = long_enough is.valid.least l in
    let len : len_of e (with_length ls i n) i ≡ n = noted_here e ls i n reaches sized in
    let small = size_fits (version_by ls) e n sized in
    let lies = chunk_fits e i is.valid.greatest l in
    let bit : bit_in (set area.used i true) i ≡ true = get_or-set_same area.used i true false (omega arith) in
    let content' : List ℕ = with_part area.content (i * size e) (replicate (size e) 0) in
    record {
      is = sized_area-put ls (with_length ls i n) (set area.used i true) (set area.dirty i true) content' i
          is.valid valid' (noted_version ls i n) l
          (used_chunk (with_taken area i) (with_length ls i n) i bit
          ∙ ap (λ m. Some (part_of content' (i * size e) m)) len
          ∙ ap Some (part_of-filled area.content (i * size e) (size e) n 0 (omega arith) small))
          (λ k ne. chunk_same area ls (with_length ls i n) (set area.used i true) (set area.dirty i true) content' k (set_bit area.used true ne) (noted_other e ls n ne)
          (bytes_same i 0 (i * size e) (replicate (size e) 0) is l (omega (arith, length-replicate {A = ℕ} (size e) 0)) (omega arith) ne))
          (get_or-set_same area.dirty i true false (omega arith))
          (λ k ne. set_bit area.dirty true ne);
      measured = record {
        valid = valid';
        fits = λ k h.
            elim (cases_eq k i) as (λ _. IsSizeOf (version_by (with_length ls i n)) e (len_of e (with_length ls i n) k)) [
              | inl same ↦ subst (λ v. IsSizeOf v e (len_of e (with_length ls i n) k)) (sym (noted_version ls i n)) (subst (IsSizeOf (version_by ls) e) (sym (ap (λ j. len_of e (with_length ls i n) j) same ∙ len)) sized)
              | inr ne ↦ subst (λ v. IsSizeOf v e (len_of e (with_length ls i n) k)) (sym (noted_version ls i n))
                  (subst (IsSizeOf (version_by ls) e) (sym (noted_other e ls n ne)) (is.fits k (sym (set_bit area.used true ne) ∙ h)))
            ];
      };
    }

-- ---- a chunk is given up

pub released : (area : AreaMeaning) (ls : Option (List ℕ)) (i : ℕ) → IsMeasured area ls → IsSet area.used i → IsValidArea (with_released area i)
    → Steps (with_released area i) ls (area_with_chunk (place_of area ls) i None false)
released area ls i is h valid' =
    let e : ℕ = area.exponent in
    let l = is.valid.used_below i h in
    let long = is.valid.used_len in
    let long' = is.valid.dirty_len in
    let in_bits = long_enough is.valid.least l in
    let bit : bit_in (set area.used i false) i ≡ false = get_or-set_same area.used i false false (omega arith) in
    record {
      is = sized_area-put ls ls (set area.used i false) (set area.dirty i false) area.content i is.valid valid' refl l
          (unused_chunk (with_released area i) ls i bit)
          (λ k ne. chunk_same area ls ls (set area.used i false) (set area.dirty i false) area.content k (set_bit area.used false ne) refl (λ _. refl))
          (get_or-set_same area.dirty i false false (omega arith))
          (λ k ne. set_bit area.dirty false ne);
      measured = record {
        valid = valid';
        fits = λ k h'.
            elim (cases_eq k i) as (λ _. IsSizeOf (version_by ls) e (len_of e ls k)) [
              | inl same ↦ (let gone = ap (bit_in (set area.used i false)) same ∙ bit in absurd cc)
              | inr ne ↦ is.fits k (sym (set_bit area.used false ne) ∙ h')
            ];
      };
    }

-- ---- bytes are written

dirty_marked : (dirty : List Bool) (i n : ℕ) → 0 < n → dirty_after dirty i n ≡ set dirty i true
dirty_marked dirty i zero some = absurd (omega arith)
dirty_marked dirty i (suc n) some = refl

-- the bytes ys were written into chunk i from `at` on, and its length is now n
pub written_as : {area : AreaMeaning} {ls ls' : Option (List ℕ)} (i at n : ℕ) (ys : List ℕ) {now : List ℕ} → IsMeasured area ls → IsSet area.used i → 0 < length ys → at + length ys ≤ size area.exponent
    → IsValidArea (with_written area i at ys) → ls' ≡ with_length ls i n → Reaches ls i → IsSizeOf (version_by ls) area.exponent n
    → part_of (with_part area.content (i * size area.exponent + at) ys) (i * size area.exponent) n ≡ now
    → Steps (with_written area i at ys) ls' (area_with_chunk (place_of area ls) i (Some now) true)
written_as {area} {ls} {ls'} i at n ys {now} is h some within valid' lengths reaches sized bytes =
    let e : ℕ = area.exponent in
    let l = is.valid.used_below i h in
    let long' = is.valid.dirty_len in
    let in_bits = long_enough is.valid.least l in
    let dirty' : List Bool = dirty_after area.dirty i (length ys) in
    let marked : dirty' ≡ set area.dirty i true = dirty_marked area.dirty i (length ys) some in
    let content' : List ℕ = with_part area.content (i * size e + at) ys in
    let len : len_of e ls' i ≡ n = ap (λ x. len_of e x i) lengths ∙ noted_here e ls i n reaches sized in
    let same : version_by ls' ≡ version_by ls = ap version_by lengths ∙ noted_version ls i n in
    let other : (k : ℕ) → (k ≡ i → ⊥) → len_of e ls' k ≡ len_of e ls k = λ k ne. ap (λ x. len_of e x k) lengths ∙ noted_other e ls n ne in
    record {
      is = sized_area-put ls ls' area.used dirty' content' i is.valid valid' same l
          (used_chunk (with_written area i at ys) ls' i h ∙ ap (λ m. Some (part_of content' (i * size e) m)) len ∙ ap Some bytes)
          (λ k ne. chunk_same area ls ls' area.used dirty' content' k refl (other k ne) (bytes_same i at (i * size e + at) ys is l within refl ne))
          (ap (λ d. bit_in d i) marked ∙ get_or-set_same area.dirty i true false (omega arith))
          (λ k ne. ap (λ d. bit_in d k) marked ∙ set_bit area.dirty true ne);
      measured = record {
        valid = valid';
        fits = λ k h'. subst (λ v. IsSizeOf v e (len_of e ls' k)) (sym same)
            (elim (cases_eq k i) as (λ _. IsSizeOf (version_by ls) e (len_of e ls' k)) [
              | inl at_i ↦ subst (IsSizeOf (version_by ls) e) (sym (ap (λ j. len_of e ls' j) at_i ∙ len)) sized
              | inr ne ↦ subst (IsSizeOf (version_by ls) e) (sym (other k ne)) (is.fits k h')
            ]);
      };
    }

noted_same : (e : ℕ) (ls : Option (List ℕ)) (i : ℕ) → ls ≡ with_length ls i (len_of e ls i)
noted_same e None i = refl
noted_same e (Some ns) i = ap Some (sym (set-get_or ns i 0))

pub written : (area : AreaMeaning) (ls : Option (List ℕ)) (i at : ℕ) (ys old : List ℕ) → IsMeasured area ls → chunk_in area ls i ≡ Some old → 0 < length ys → at + length ys ≤ length old
    → IsValidArea (with_written area i at ys) → Reaches ls i → Steps (with_written area i at ys) ls (area_with_chunk (place_of area ls) i (Some (splice at ys old)) true)
written area ls i at ys old is chunk some within valid' reaches =
    let e : ℕ = area.exponent in
    let h : IsSet area.used i = sym (some_used area ls i) ∙ ap is_some chunk in
    let n : ℕ = len_of e ls i in
    let len : length old ≡ n = length_of_chunk i old is chunk in
    let bytes : part_of area.content (i * size e) n ≡ old = (let u = used_chunk area ls i h in cc) in
    let fits = size_fits (version_by ls) e n (is.fits i h) in
    written_as i at n ys is h some (omega arith) valid' (noted_same e ls i) reaches (is.fits i h)
    (part_of-inside area.content (i * size e) n at ys (chunk_room i is h) (omega arith) ∙ ap (splice at ys) bytes)

-- ---- a chunk gets another length

split_fitted : (n m : ℕ) (p old : List ℕ) → take m p ≡ old → length p ≡ n → m ≤ n → length old ≡ m → splice m (replicate (n - m) 0) p ≡ fitted n old
split_fitted n m p old front long less len =
    let zeros : List ℕ = replicate (n - m) 0 in
    let gone : drop (m + length zeros) p ≡ [] = drop_all (m + length zeros) p (omega (arith, length-replicate {A = ℕ} (n - m) 0)) in
    let all : take n old ≡ old = take_all n old (omega arith) in
    let rest : n - length old ≡ n - m = omega arith in
    ap (λ xs. take m p ++ replicate (n - m) 0 ++ xs) gone ∙ append-nil (take m p ++ replicate (n - m) 0) ∙ ap (λ xs. xs ++ replicate (n - m) 0) front
    ∙ sym (ap (λ xs. xs ++ replicate (n - length old) 0) all ∙ ap (λ k. old ++ replicate k 0) rest)

front_of : (xs : List ℕ) (a m n : ℕ) → m ≤ n → take m (part_of xs a n) ≡ part_of xs a m
front_of xs a m n less = take-take m (a + n - a) (drop a xs) (omega arith) ∙ (let e : m ≡ a + m - a = omega arith in ap (λ k. take k (drop a xs)) e)

-- it grows, by zeros
pub grown : (area : AreaMeaning) (ls : Option (List ℕ)) (i n : ℕ) (old : List ℕ) → IsMeasured area ls → chunk_in area ls i ≡ Some old → length old < n → IsSizeOf (version_by ls) area.exponent n
    → IsValidArea (with_written area i (length old) (replicate (n - length old) 0)) → Reaches ls i
    → Steps (with_written area i (length old) (replicate (n - length old) 0)) (with_length ls i n) (area_with_chunk (place_of area ls) i (Some (fitted n old)) true)
grown area ls i n old is chunk more sized valid' reaches =
    let e : ℕ = area.exponent in
    let m : ℕ = length old in
    let h : IsSet area.used i = sym (some_used area ls i) ∙ ap is_some chunk in
    let l = is.valid.used_below i h in
    let len : m ≡ len_of e ls i = length_of_chunk i old is chunk in
    let bytes : part_of area.content (i * size e) m ≡ old = (let u = used_chunk area ls i h in let v = ap (λ k. part_of area.content (i * size e) k) len in cc) in
    let fits = size_fits (version_by ls) e n sized in
    let lies = chunk_fits e i is.valid.greatest l in
    let whole = is.valid.content_len in
    let zeros : List ℕ = replicate (n - m) 0 in
    let long : length zeros ≡ n - m = length-replicate {A = ℕ} (n - m) 0 in
    let p : List ℕ = part_of area.content (i * size e) n in
    written_as i m n (replicate (n - m) 0) is h (omega arith) (omega arith) valid' refl reaches sized
    (part_of-inside area.content (i * size e) n m (replicate (n - m) 0) (omega arith) (omega arith)
    ∙ split_fitted n m p old (front_of area.content (i * size e) m n (omega arith) ∙ bytes) (length-part_of area.content (i * size e) n (omega arith)) (omega arith) refl)

-- it shrinks; a zero behind its new end marks it as touched
pub shrunk : (area : AreaMeaning) (ls : Option (List ℕ)) (i n : ℕ) (old : List ℕ) → IsMeasured area ls → chunk_in area ls i ≡ Some old → n < length old → IsSizeOf (version_by ls) area.exponent n
    → IsValidArea (with_written area i n (replicate 1 0)) → Reaches ls i
    → Steps (with_written area i n (replicate 1 0)) (with_length ls i n) (area_with_chunk (place_of area ls) i (Some (fitted n old)) true)
shrunk area ls i n old is chunk less sized valid' reaches =
    let e : ℕ = area.exponent in
    let m : ℕ = length old in
    let h : IsSet area.used i = sym (some_used area ls i) ∙ ap is_some chunk in
    let l = is.valid.used_below i h in
    let len : m ≡ len_of e ls i = length_of_chunk i old is chunk in
    let bytes : part_of area.content (i * size e) m ≡ old = (let u = used_chunk area ls i h in let v = ap (λ k. part_of area.content (i * size e) k) len in cc) in
    let fits = size_fits (version_by ls) e (len_of e ls i) (is.fits i h) in
    let lies = chunk_fits e i is.valid.greatest l in
    let whole = is.valid.content_len in
    let none : n - m ≡ 0 = omega arith in
    written_as i n n (replicate 1 0) is h (omega arith) (omega arith) valid' refl reaches sized
    (part_of-apart area.content (i * size e) n (i * size e + n) (replicate 1 0) (omega arith) (omega arith) (inl (omega arith))
    ∙ sym (front_of area.content (i * size e) n m (omega arith)) ∙ ap (take n) bytes
    ∙ sym (ap (λ k. take n old ++ replicate k 0) none ∙ append-nil (take n old)))

-- ---- no chunk is touched

pub chunks_clean : (area : AreaMeaning) (dirty : List Bool) (ls : Option (List ℕ)) → chunks_in (record area { dirty = dirty }) ls ≡ chunks_in area ls
unfolding chunks_in
chunks_clean area dirty ls = refl

take_clear : (k n : ℕ) → k ≤ n → take k (clear_bits n) ≡ replicate k false
unfolding clear_bits
take_clear k n less = take-replicate k n false less

touched_clean : (area : AreaMeaning) (n : ℕ) → per area.exponent ≤ n → length (touched_in area) ≡ per area.exponent → touched_in (record area { dirty = clear_bits n }) ≡ replicate (length (touched_in area)) false
unfolding touched_in
touched_clean area n less long = take_clear (per area.exponent) n less ∙ ap (λ k. replicate k false) (sym long)

pub cleaned : (area : AreaMeaning) (ls : Option (List ℕ)) → IsMeasured area ls → IsValidArea (with_clean area)
    → Steps (with_clean area) ls (record (place_of area ls) { touched = replicate (length (touched_in area)) false })
cleaned area ls is valid' =
    let chunks = chunks_clean area (clear_bits MOST_CHUNKS) ls in
    let touches = touched_clean area MOST_CHUNKS (per_fits is.valid.least) (length-touched_in is.valid) in
    record {
      is = λ j. record (place_of area ls) { chunks = chunks j; touched = touches j };
      measured = record { valid = valid'; fits = is.fits };
    }

-- ---- a new place

new_chunks : (area : AreaMeaning) (ls : Option (List ℕ)) → IsValidArea area → ((i : ℕ) → IsClear area.used i) → chunks_in area ls ≡ replicate (per area.exponent) None
new_chunks area ls valid clear =
    ext_get_or None (chunks_in area ls) (replicate (per area.exponent) None) (length-chunks_in area ls ∙ sym (length-replicate {A = Option (List ℕ)} (per area.exponent) None))
    (λ k l. chunk_of ls k valid ∙ unused_chunk area ls k (clear k) ∙ sym (get_or-replicate (per area.exponent) k None None (omega (arith, length-chunks_in area ls))))

new_marks : (area : AreaMeaning) → IsValidArea area → ((i : ℕ) → IsClear area.used i) → touched_in area ≡ replicate (per area.exponent) false
new_marks area valid clear =
    ext_get_or false (touched_in area) (replicate (per area.exponent) false) (length-touched_in valid ∙ sym (length-replicate {A = Bool} (per area.exponent) false))
    (λ k l. mark_of k valid
    ∙ elim (bit_in area.dirty k) as (λ b. bit_in area.dirty k ≡ b → b ≡ false) [ true ↦ λ h. (let u = valid.dirty_used k h in let c = clear k in absurd cc) | false ↦ λ h. refl ] refl
    ∙ sym (get_or-replicate (per area.exponent) k false false (omega (arith, length-touched_in valid))))

-- a place in which no chunk is in use
abbrev pub empty_place : Version → ℕ → ℕ → SegmentId → SizedAreaMeaning
empty_place v e o id = record { version = v; exponent = e; ordinal = o; identity = id; chunks = replicate (per e) None; touched = replicate (per e) false }

pub made : (area : AreaMeaning) (ls : Option (List ℕ)) → IsValidArea area → ((i : ℕ) → IsClear area.used i)
    → Steps area ls (empty_place (version_by ls) area.exponent area.ordinal area.identity)
made area ls valid clear =
    let chunks = new_chunks area ls valid clear in
    let marks = new_marks area valid clear in
    record {
      is = λ j. record (place_of area ls) { chunks = chunks j; touched = marks j };
      measured = record { valid = valid; fits = λ i h. (let c = clear i in absurd cc) };
    }
