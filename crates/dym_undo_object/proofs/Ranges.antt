-- From chunk to chunk of a region: where the next one begins, and which live chunks have a byte on the way.
use Rattle.std.proofs.Common.{◌≡◌, ℕ, ◌+◌, ◌-◌, ◌*◌, ◌/◌, ◌%◌, ◌^◌, max, min, ◌<◌, ◌≤◌, inl, inr, Bool, true, false, ◌==◌, ltb, Option, None, Some, is_some}
use Rattle.std.proofs.Common.{List, [], length}
use Rattle.std.proofs.Common.{MatchOption, refl, sym, ap, subst, ◌∙◌, arith, true≢false, eq-eqb}
use Rattle.std.specs.FinMap.{get}
use Rattle.std.specs.Prelude.{unwrap_or}
use Rattle.std.proofs.Math.Nat.{mod-eq-sub-div-mul, div-mul-le_self}
use Rattle.std.proofs.lemmas.Bool.{cases_eq, cases_lt, ltb-true, lt-ltb, ne_eqb}
use Rattle.std.proofs.lemmas.Nat.{pow_pos, pow-add, mod_below, div_below, div-mul-add, le-div, mul-le}
use Rattle.dym_base.specs.Numbers.{number, size, per, exponent_of, index_of}
use Rattle.dym_base.specs.HeapStep.{handle_of, key}
use Rattle.dym_base.specs.declared.handle.Handle.{Handle}
use Rattle.dym_base.proofs.Heaps.{areas_below, areas_held}
use Rattle.dym_base.proofs.Sizes.{exponent_of_number}
use Rattle.dym_heap.specs.Addresses.{chunk_offset, HasByteAt}
use Rattle.dym_heap.specs.Meaning.{HeapMeaning, IsSound}
use Rattle.dym_heap.specs.Touches.{has_byte_in}
use Rattle.dym_heap.proofs.Sizes.{chunk_fits, size_fits}
use Rattle.dym_undo_object.specs.Places.{IsPlace, place_start}

-- ---- where the next chunk begins

parts_of : (n k : ℕ) → n / k * k + n % k ≡ n
parts_of n k = omega (arith, mod-eq-sub-div-mul n k, div-mul-le_self n k)

size_pos : (e : ℕ) → 0 < size e
size_pos e = pow_pos e

-- the first byte of a chunk lies in its class
class_of_start : (quota e i : ℕ) → IsPlace quota e i → place_start quota e i / 65536 / quota ≡ e - 5
class_of_start quota e i place =
    let fits = chunk_fits e (i % per e) place.1 (mod_below i (per e) (pow_pos (16 - e))) in
    ap (λ n. n / quota) (div-mul-add ((e - 5) * quota + i / per e) 65536 (i % per e * size e) (omega (arith, fits, size_pos e))) ∙ div-mul-add (e - 5) quota
    (i / per e) place.2

-- it ends within the region
ends_within : (quota e i : ℕ) → IsPlace quota e i → place_start quota e i + size e ≤ 12 * quota * 65536
ends_within quota e i place =
    let fits = chunk_fits e (i % per e) place.1 (mod_below i (per e) (pow_pos (16 - e))) in
    let below = mul-le (e - 5) quota 11 quota (omega (arith, place.1)) (omega arith) in
    omega (arith, fits, below, place.2)

div_mono : (a b k : ℕ) → 0 < k → a ≤ b → a / k ≤ b / k
div_mono a b k some le = le-div (a / k) b k some (omega (arith, div-mul-le_self a k, le))

-- the class of an offset is none after that of a start behind it
pub class_before : (quota offset e i : ℕ) → IsPlace quota e i → offset < place_start quota e i → offset / 65536 / quota ≤ e - 5
class_before quota offset e i place before =
    omega (
      arith,
      class_of_start quota e i place,
      div_mono (offset / 65536) (place_start quota e i / 65536) quota (omega (arith, place.2))
          (div_mono offset (place_start quota e i) 65536 (omega arith) (omega (arith, before))),
    )

split_pow : (a b : ℕ) → b ≤ a → 2 ^ a ≡ 2 ^ (a - b) * 2 ^ b
split_pow a b le = ap (λ n. 2 ^ n) (let e : a ≡ a - b + b = omega (arith, le) in e) ∙ pow-add 2 (a - b) b

-- a start is a multiple of each size that is no greater than its own
multiple : (quota e i k : ℕ) → k ≤ e → e ≤ 16 → (m : ℕ) × (place_start quota e i ≡ m * 2 ^ k)
multiple quota e i k low high =
    (((e - 5) * quota + i / per e) * 2 ^ (16 - k) + (i % per e) * 2 ^ (e - k), is)
  where
    shared : (x y a b z u w : ℕ) → a ≡ u * z → b ≡ w * z → x * a + y * b ≡ (x * u + y * w) * z
    shared x y a b z u w a_is b_is = (λ j. x * a_is j + y * b_is j) ∙ omega arith

    is : place_start quota e i ≡ (((e - 5) * quota + i / per e) * 2 ^ (16 - k) + (i % per e) * 2 ^ (e - k)) * 2 ^ k
    is = shared ((e - 5) * quota + i / per e) (i % per e) 65536 (size e) (2 ^ k) (2 ^ (16 - k)) (2 ^ (e - k)) (split_pow 16 k (omega (arith, low, high)))
        (split_pow e k low)

-- a multiple behind an offset isn't before the next one
next_multiple : (offset m z : ℕ) → 0 < z → offset < m * z → offset - offset % z + z ≤ m * z
next_multiple offset m z some before =
    let up : offset / z < m = div_below offset z m some before in
    let next : (offset / z + 1) * z ≤ m * z = mul-le (offset / z + 1) z m z (omega (arith, up)) (omega arith) in
    omega (arith, next, parts_of offset z)

pub next_start : (quota offset e i z : ℕ) → IsPlace quota e i → z ≡ 2 ^ (5 + offset / 65536 / quota) → offset < place_start quota e i
    → offset - offset % z + z ≤ place_start quota e i
next_start quota offset e i z place z_is before =
    let c : ℕ = 5 + offset / 65536 / quota in
    let low : c ≤ e = omega (arith, class_before quota offset e i place before, place.0) in
    let m = multiple quota e i c low place.1 in
    subst (λ x. offset - offset % x + x ≤ place_start quota e i) (sym z_is)
    (subst (λ x. offset - offset % (2 ^ c) + 2 ^ c ≤ x) (sym m.1) (next_multiple offset m.0 (2 ^ c) (pow_pos c) (subst (λ x. offset < x) m.1 before)))

-- ---- a live chunk's place

number_of : (k : ℕ) → number (exponent_of k) (index_of k) ≡ k
number_of k = parts_of k (2 ^ 32)

pub place_of : (h : HeapMeaning) (k : ℕ) → IsSound h → is_some (get h.state.live k) ≡ true → IsPlace h.quota (exponent_of k) (index_of k)
place_of h k sound has =
    let low = sound.least_class k has in
    let high = sound.most_class k has in (
      low,
      high,
      (areas_below h.state.live (exponent_of k) h.quota).0 (omega (arith, areas_held h.state.live (exponent_of k) low high, sound.within)) k has refl,
    )

-- ---- a step of the walk

-- the chunk begins at `start`, and is o
walk_by : (from at next start : ℕ) (P : Type 0) (o : Option (List ℕ)) → (ltb (max from start) (min at (start + length (unwrap_or o []))) ≡ true → P)
    → (MatchOption o ⊥ (λ bytes. (start ≤ at) × (at < start + length bytes)) → P)
    → (is_some o ≡ true → at < start → next ≤ start) → ltb (max from start) (min next (start + length (unwrap_or o []))) ≡ true → P
walk_by from at next start P None seen here behind has = absurd (omega (arith, ltb-true (max from start) (min next (start + 0)) has))
walk_by from at next start P (Some bytes) seen here behind has =
    let in_next = ltb-true (max from start) (min next (start + length bytes)) has in
    elim (cases_lt at start) as (λ _. P) [
      | inl before ↦ absurd (omega (arith, behind refl before, in_next))
      | inr begun ↦ elim (cases_lt at (start + length bytes)) as (λ _. P) [
        | inl within ↦ here (begun, within)
        | inr past ↦ seen (lt-ltb (max from start) (min at (start + length bytes)) (omega (arith, past, in_next)))
      ]
    ]

-- a chunk with a byte up to `next` has one up to `at`, or has the byte at `at`, where it doesn't begin between
pub walk : (h : HeapMeaning) (from at next k : ℕ) (P : Type 0) → (has_byte_in h.quota h.state.live from at k ≡ true → P) → (HasByteAt h (handle_of k) at → P)
    → (is_some (get h.state.live k) ≡ true → at < chunk_offset h.quota (handle_of k) → next ≤ chunk_offset h.quota (handle_of k))
    → has_byte_in h.quota h.state.live from next k ≡ true → P
walk h from at next k P seen here behind has =
    walk_by from at next (chunk_offset h.quota (handle_of k)) P (get h.state.live k) seen
    (λ byte. here (subst (λ (n : ℕ). MatchOption (get h.state.live n) ⊥
    (λ b. (chunk_offset h.quota (handle_of k) ≤ at) × (at < chunk_offset h.quota (handle_of k) + length b))) (sym (number_of k)) byte))
    behind has

-- nothing has a byte between a place and itself
pub none_yet : (h : HeapMeaning) (from k : ℕ) (P : Type 0) → has_byte_in h.quota h.state.live from from k ≡ true → P
none_yet h from k P has = absurd (omega (arith, ltb-true _ _ has))

-- ---- the end of a range that is cut

-- a live chunk ends before the greatest offset
cut_by : (from sum end start : ℕ) (o : Option (List ℕ)) → end ≡ min sum 18446744073709551615
    → (is_some o ≡ true → start + length (unwrap_or o []) ≤ 18446744073709551615) → ltb (max from start) (min sum (start + length (unwrap_or o []))) ≡ true
    → ltb (max from start) (min end (start + length (unwrap_or o []))) ≡ true
cut_by from sum end start None is ends has = absurd (omega (arith, ltb-true (max from start) (min sum (start + 0)) has))
cut_by from sum end start (Some bytes) is ends has =
    lt-ltb (max from start) (min end (start + length bytes)) (omega (arith, is, ends refl, ltb-true (max from start) (min sum (start + length bytes)) has))

ends_before : (h : HeapMeaning) (k : ℕ) → IsSound h → (o : Option (List ℕ)) → get h.state.live k ≡ o → is_some o ≡ true → chunk_offset h.quota (handle_of k) + length
    (unwrap_or o []) ≤ 18446744073709551615
ends_before h k sound None is has = absurd (true≢false (sym has))
ends_before h k sound (Some bytes) is has =
    let place = place_of h k sound (ap is_some is) in
    omega (arith, ends_within h.quota (exponent_of k) (index_of k) place, size_fits h.version (exponent_of k) (length bytes) (sound.sized k bytes is), sound.quota_most)

pub cut_has : (h : HeapMeaning) (from sum end k : ℕ) → IsSound h → end ≡ min sum 18446744073709551615 → has_byte_in h.quota h.state.live from sum k ≡ true
    → has_byte_in h.quota h.state.live from end k ≡ true
cut_has h from sum end k sound is has = cut_by from sum end (chunk_offset h.quota (handle_of k)) (get h.state.live k) is
    (ends_before h k sound (get h.state.live k) refl) has

-- ---- a range in the place of one chunk

handle_is : (chunk : Handle) → chunk.index < 2 ^ 32 → handle_of (key chunk) ≡ chunk
handle_is chunk small =
    let e : exponent_of (key chunk) ≡ chunk.exp = exponent_of_number chunk.exp chunk.index small in
    let i : index_of (key chunk) ≡ chunk.index = omega (arith, small) in
    (λ j. record { exp = e j; index = i j })

has_here : (from end start : ℕ) (o : Option (List ℕ)) → from < end → MatchOption o ⊥ (λ bytes. (start ≤ from) × (from < start + length bytes))
    → ltb (max from start) (min end (start + length (unwrap_or o []))) ≡ true
has_here from end start None some byte = absurd byte
has_here from end start (Some bytes) some byte = lt-ltb (max from start) (min end (start + length bytes)) (omega (arith, some, byte.0, byte.1))

false_of : (b : Bool) → (b ≡ true → ⊥) → b ≡ false
false_of true never = absurd (never refl)
false_of false never = refl

some_inside : (a b : ℕ) → Some a ≡ Some b → a ≡ b
some_inside a b same = ap (λ (o : Option ℕ). unwrap_or o 0) same

-- the chunk that has the first byte alone has bytes in the range, where no other chunk's place begins within
pub alone : (h : HeapMeaning) (chunk : Handle) (from end : ℕ) → IsSound h → chunk.index < 2 ^ 32 → from < end → HasByteAt h chunk from
    → ((k : ℕ) → HasByteAt h (handle_of k) from → Some (key chunk) ≡ Some k)
    → ((e i : ℕ) → IsPlace h.quota e i → from < place_start h.quota e i → end ≤ place_start h.quota e i)
    → (k : ℕ) → has_byte_in h.quota h.state.live from end k ≡ (k == key chunk)
alone h chunk from end sound small some byte only none k = elim (cases_eq k (key chunk)) as (λ _. has_byte_in h.quota h.state.live from end k ≡ (k == key chunk)) [
  | inl e ↦ ap (has_byte_in h.quota h.state.live from end) e
      ∙ ap (λ (c : Handle). ltb (max from (chunk_offset h.quota c)) (min end (chunk_offset h.quota c + length (unwrap_or (get h.state.live (key chunk)) []))))
      (handle_is chunk small)
      ∙ has_here from end (chunk_offset h.quota chunk) (get h.state.live (key chunk)) some byte
      ∙ sym (eq-eqb k (key chunk) e)
  | inr ne ↦ false_of (has_byte_in h.quota h.state.live from end k) (λ has.
      walk h from from end k ⊥ (λ seen. none_yet h from k ⊥ seen) (λ here. ne (sym (some_inside (key chunk) k (only k here))))
      (λ live before. none (exponent_of k) (index_of k) (place_of h k sound live) before) has)
      ∙ sym (ne_eqb k (key chunk) ne)
]

-- a range that is cut at the greatest offset has the same chunks
pub cut_same : (h : HeapMeaning) (from sum end k : ℕ) → IsSound h → end ≡ min sum 18446744073709551615
    → has_byte_in h.quota h.state.live from sum k ≡ has_byte_in h.quota h.state.live from end k
cut_same h from sum end k sound is =
    let start = chunk_offset h.quota (handle_of k) in
    let ends = start + length (unwrap_or (get h.state.live k) []) in
    same_truth (has_byte_in h.quota h.state.live from sum k) (has_byte_in h.quota h.state.live from end k) (cut_has h from sum end k sound is)
    (λ has. lt-ltb (max from start) (min sum ends) (omega (arith, is, ltb-true (max from start) (min end ends) has)))
  where
    same_truth : (a b : Bool) → (a ≡ true → b ≡ true) → (b ≡ true → a ≡ true) → a ≡ b
    same_truth true b up down = sym (up refl)
    same_truth false true up down = down refl
    same_truth false false up down = refl
