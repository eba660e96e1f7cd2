-- Which chunk a byte of the region lies in: the place of a chunk, read backwards.
use Rattle.std.proofs.Common.{◌≡◌, ℕ, ◌+◌, ◌-◌, ◌*◌, ◌/◌, ◌%◌, ◌^◌, ◌<◌, ◌≤◌, is_some, Option, Some, None, List, length, MatchOption, refl, sym, ap, subst, ◌∙◌, arith}
use Rattle.std.specs.FinMap.{get}
use Rattle.std.specs.Prelude.{option_map}
use Rattle.std.proofs.Math.Nat.{mod-eq-sub-div-mul, div-mul-le_self}
use Rattle.std.proofs.lemmas.Nat.{div-mul-add, mod-mul-add, div_below, mod_below, pow_pos}
use Rattle.std.proofs.lemmas.List.Sums.{get_or-le-sum_by}
use Rattle.dym_base.specs.Numbers.{number, size, per, exponent_of, index_of}
use Rattle.dym_base.specs.HeapStep.{key, handle_of}
use Rattle.dym_base.specs.declared.handle.Handle.{Handle}
use Rattle.dym_heap.specs.Meaning.{HeapMeaning}
use Rattle.dym_heap.specs.Shelves.{ShelfMeaning, IsTidy}
use Rattle.dym_heap.specs.Addresses.{chunk_offset, HasByteAt, LiesAt}
use Rattle.dym_heap.proofs.Sizes.{size_fits, chunk_fits, whole_area}
use Rattle.dym_heap.proofs.Tidy.{meaning_of}

-- ---- numbers

-- a number is its quotient and its rest
parts_of : (n k : ℕ) → n / k * k + n % k ≡ n
parts_of n k = omega (arith, mod-eq-sub-div-mul n k, div-mul-le_self n k)

per_pos : (e : ℕ) → 0 < per e
per_pos e = pow_pos (16 - e)

size_pos : (e : ℕ) → 0 < size e
size_pos e = pow_pos e

-- the chunk that a byte of a segment lies in
pub chunk_below : (e at : ℕ) → e ≤ 16 → at < 65536 → at / size e < per e
chunk_below e at high small = div_below at (size e) (per e) (size_pos e) (omega (arith, whole_area high, small))

-- where the parts of an offset lie
pub lies_at : (quota offset e o at : ℕ) → 0 < quota → 5 ≤ e → e ≤ 16 → e - 5 ≡ offset / 65536 / quota → o ≡ (offset / 65536) % quota → at ≡ offset % 65536 → LiesAt quota e (o * per e + at / size e) (at % size e) offset
lies_at quota offset e o at some low high class ordinal rest =
    let small : at < 65536 = omega (arith, rest, mod_below offset 65536 (omega arith)) in
    let j = chunk_below e at high small in
    let area : (o * per e + at / size e) / per e ≡ o = div-mul-add o (per e) (at / size e) j in
    let chunk : (o * per e + at / size e) % per e ≡ at / size e = mod-mul-add o (per e) (at / size e) j in
    let seg : (e - 5) * quota + o ≡ offset / 65536 = (λ k. class k * quota + ordinal k) ∙ parts_of (offset / 65536) quota in
    let within : o < quota = omega (arith, ordinal, mod_below (offset / 65536) quota some) in
    record {
      least = low;
      most = high;
      area = subst (λ n. n < quota) (sym area) within;
      byte = mod_below at (size e) (size_pos e);
      is =
          (λ k. ((e - 5) * quota + area k) * 65536 + chunk k * size e + at % size e)
          ∙ ap (λ n. n * 65536 + at / size e * size e + at % size e) seg
          ∙ omega (arith, parts_of at (size e), rest, parts_of offset 65536);
    }

-- the parts of an offset where a byte of a chunk lies
pub record Parts (quota offset e i at : ℕ) : Type 0 where
  pub class : offset / 65536 / quota ≡ e - 5
  pub area : (offset / 65536) % quota ≡ i / per e
  pub chunk : (offset % 65536) / size e ≡ i % per e
  pub byte : (offset % 65536) % size e ≡ at

pub parts_at : {quota offset e i at : ℕ} → LiesAt quota e i at offset → Parts quota offset e i at
parts_at {quota} {offset} {e} {i} {at} lies =
    let j = mod_below i (per e) (per_pos e) in
    let fits = chunk_fits e (i % per e) lies.most j in
    let byte = lies.byte in
    let w : ℕ = i % per e * size e + at in
    let small : i % per e * size e + at < 65536 = omega arith in
    let whole : offset ≡ ((e - 5) * quota + i / per e) * 65536 + (i % per e * size e + at) = (let is = lies.is in omega arith) in
    let segment : offset / 65536 ≡ (e - 5) * quota + i / per e = ap (λ n. n / 65536) whole ∙ div-mul-add ((e - 5) * quota + i / per e) 65536 (i % per e * size e + at) small in
    let rest : offset % 65536 ≡ i % per e * size e + at = ap (λ n. n % 65536) whole ∙ mod-mul-add ((e - 5) * quota + i / per e) 65536 (i % per e * size e + at) small in
    record {
      class = ap (λ n. n / quota) segment ∙ div-mul-add (e - 5) quota (i / per e) lies.area;
      area = ap (λ n. n % quota) segment ∙ mod-mul-add (e - 5) quota (i / per e) lies.area;
      chunk = ap (λ n. n / size e) rest ∙ div-mul-add (i % per e) (size e) at byte;
      byte = ap (λ n. n % size e) rest ∙ mod-mul-add (i % per e) (size e) at byte;
    }

pub index_of_parts : (e i : ℕ) → i / per e * per e + i % per e ≡ i
index_of_parts e i = parts_of i (per e)

-- the chunk of an offset as it is computed: the numbers that it is made of come from calls
module _ {quota : ℕ} (offset : ℕ) {a b b' a' p s : ℕ} (a_is : a ≡ 65536) (b_is : b ≡ quota) (b'_is : b' ≡ quota) (a'_is : a' ≡ 65536) (p_is : p ≡ per (5 + offset / a / b)) (s_is : s ≡ size (5 + offset / a / b)) where
  abbrev made : ℕ
  made = 5 + offset / a / b

  pub lies_computed : 0 < quota → offset / a / b < 12 → LiesAt quota (5 + offset / a / b) (offset / a % b' * p + offset % a' / s) (offset % a' % s) offset
  lies_computed some few =
      let class : made - 5 ≡ offset / 65536 / quota = omega arith ∙ (λ j. offset / a_is j / b_is j) in
      let lies = lies_at quota offset made (offset / a % b') (offset % a') some (omega arith) (omega (arith, few)) class (λ j. offset / a_is j % b'_is j) (λ j. offset % a'_is j) in
      subst (λ x. LiesAt quota made (offset / a % b' * p + offset % a' / x) (offset % a' % x) offset) (sym s_is)
      (subst (λ x. LiesAt quota made (offset / a % b' * x + offset % a' / size made) (offset % a' % size made) offset) (sym p_is) lies)

  pub only_computed : (e i at : ℕ) → LiesAt quota e i at offset → (5 + offset / a / b ≡ e) × (offset / a % b' * p + offset % a' / s ≡ i) × (offset % a' % s ≡ at)
  only_computed e i at lies =
      let parts = parts_at lies in
      let low = lies.least in
      let class : made ≡ e = (λ j. 5 + offset / a_is j / b_is j) ∙ ap (λ n. 5 + n) parts.class ∙ omega arith in
      let area : offset / a % b' ≡ i / per e = (λ j. offset / a_is j % b'_is j) ∙ parts.area in
      let per_is : p ≡ per e = p_is ∙ ap per class in
      let size_is : s ≡ size e = s_is ∙ ap size class in
      let chunk : offset % a' / s ≡ i % per e = (λ j. offset % a'_is j / size_is j) ∙ parts.chunk in (
        class,
        (λ j. area j * per_is j + chunk j) ∙ index_of_parts e i,
        (λ j. offset % a'_is j % size_is j) ∙ parts.byte,
      )

pub none_computed : {quota : ℕ} (offset : ℕ) {a b : ℕ} → a ≡ 65536 → b ≡ quota → 12 ≤ offset / a / b → (e i at : ℕ) → LiesAt quota e i at offset → ⊥
none_computed {quota} offset {a} {b} a_is b_is far e i at lies =
    let class : offset / a / b ≡ e - 5 = (λ j. offset / a_is j / b_is j) ∙ (parts_at lies).class in
    let high = lies.most in
    omega arith

-- ---- a live chunk lies in one of its class's areas, of which there are no more than the quota

pub number_of : (k : ℕ) → number (exponent_of k) (index_of k) ≡ k
number_of k = parts_of k (2 ^ 32)

-- where a live chunk stands, and that its bytes have room there
pub record LivePlace (quota e i len : ℕ) : Type 0 where
  pub least : 5 ≤ e
  pub most : e ≤ 16
  pub area : i / per e < quota
  pub fits : len ≤ size e

pub place_of_live : (s : ShelfMeaning) → IsTidy s → (k : ℕ) (bytes : List ℕ) → get s.state.live k ≡ Some bytes → LivePlace s.quota (exponent_of k) (index_of k) (length bytes)
place_of_live s tidy k bytes live =
    let valid = tidy.valid_shelf in
    let e : ℕ = exponent_of k in
    let class = valid.class k (ap is_some live) in
    record {
      least = class.0;
      most = class.1;
      area =
          (let inside = valid.in_area k (ap is_some live) in
          let least = get_or-le-sum_by (λ (x : ℕ). x) s.counts (e - 5) 0 (let n = valid.classes in let high = class.1 in omega arith) in
          let holds = valid.holds in
          let within = valid.within in
          omega arith);
      fits = size_fits s.version e (length bytes) (valid.sized k bytes live);
    }

-- a byte of the live chunk of number k
pub record LiveByte (h : HeapMeaning) (quota k offset : ℕ) : Type 0 where
  pub at : ℕ
  pub bytes : List ℕ
  pub live : get h.state.live k ≡ Some bytes
  pub within : at < length bytes
  pub lies : LiesAt quota (exponent_of k) (index_of k) at offset

pub has_some : (o : Option (List ℕ)) (P : List ℕ → Type 0) → MatchOption o ⊥ P → (bytes : List ℕ) × (o ≡ Some bytes) × P bytes
has_some None P has = absurd has
has_some (Some bytes) P has = (bytes, refl, has)

module _ {s : ShelfMeaning} {applied : ℕ} {h : HeapMeaning} (view : meaning_of s applied ≡ h) (tidy : IsTidy s) where
  pub live_byte : {quota : ℕ} (k offset : ℕ) → quota ≡ s.quota → HasByteAt h (handle_of k) offset → LiveByte h quota k offset
  live_byte k offset quota_is has =
      let e : ℕ = exponent_of k in
      let i : ℕ = index_of k in
      let found = has_some (get h.state.live (number e i)) (λ bytes. (chunk_offset h.quota (handle_of k) ≤ offset) × (offset < chunk_offset h.quota (handle_of k) + length bytes)) has in
      let bytes = found.0 in
      let live : get h.state.live k ≡ Some bytes = ap (get h.state.live) (sym (number_of k)) ∙ found.1 in
      let place = place_of_live s tidy k bytes (ap (λ (x : HeapMeaning). get x.state.live k) view ∙ live) in
      let fits = place.fits in
      let one : s.quota ≡ h.quota = ap (λ (x : HeapMeaning). x.quota) view in
      record {
        at = offset - chunk_offset h.quota (handle_of k);
        bytes = bytes;
        live = live;
        within = (let from = found.2.0 in let to = found.2.1 in omega arith);
        lies = subst (λ n. LiesAt n e i (offset - chunk_offset h.quota (handle_of k)) offset) (sym (quota_is ∙ one)) (record {
          least = place.least;
          most = place.most;
          area = subst (λ n. i / per e < n) one place.area;
          byte = (let from = found.2.0 in let to = found.2.1 in omega arith);
          is = (let from = found.2.0 in omega arith);
        });
      }

-- the chunk that has the byte is the one that lies there
pub record Found (h : HeapMeaning) (hd : Handle) (at k : ℕ) : Type 0 where
  pub is : key hd ≡ k
  pub bytes : List ℕ
  pub live : get h.state.live (key hd) ≡ Some bytes
  pub within : at < length bytes

pub found_by : {h : HeapMeaning} {quota k offset : ℕ} (one : LiveByte h quota k offset) (hd : Handle) {at : ℕ} → (hd.exp ≡ exponent_of k) × (hd.index ≡ index_of k) × (at ≡ one.at) → Found h hd at k
found_by {h} {k} one hd same =
    let is : key hd ≡ k = (λ j. number (same.0 j) (same.1 j)) ∙ number_of k in
    record { is = is; bytes = one.bytes; live = ap (get h.state.live) is ∙ one.live; within = subst (λ n. n < length one.bytes) (sym same.2) one.within }

-- no chunk is too short that has the byte
pub found_len : (s : ShelfMeaning) {applied : ℕ} {h : HeapMeaning} → meaning_of s applied ≡ h → {hd : Handle} {at k : ℕ} {o : Option ℕ} → Found h hd at k → o ≡ option_map length (get s.state.live (key hd)) → MatchOption o ⊥ (λ len. at < len)
found_len s view {hd} {at} {o} found is =
    let e : o ≡ Some (length found.bytes) = is ∙ ap (λ (x : HeapMeaning). option_map length (get x.state.live (key hd))) view ∙ ap (option_map length) found.live in
    subst (λ x. MatchOption x ⊥ (λ len. at < len)) (sym e) found.within
