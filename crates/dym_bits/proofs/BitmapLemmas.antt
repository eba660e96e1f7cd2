-- Lists of bits that are made of numbers, at any number k of bits in a number.
use Rattle.std.proofs.Common.{◌≡◌, ◌≢◌, ℕ, zero, suc, ◌+◌, ◌-◌, ◌*◌, ◌/◌, ◌%◌, ◌^◌, ◌<◌, Bool, true, false, List, [], ◌∷◌, ◌++◌, length, set, get_or, replicate, refl, sym, ◌∙◌, ap, arith, inl, inr, zero-add, nat_eq, bit_or, bit_and, w64}
use Rattle.std.specs.Int.{bit_at, bit_not}
use Rattle.std.proofs.lemmas.List.{length-append, get_or_append_left, get_or-append-add, ext_get_or, get_or-set_same, get_or-set_other, length-set, length-replicate, get_or-replicate, get_or_past, get_or-append_right}
use Rattle.std.proofs.lemmas.List.FromFn.{length-map-range_with_len, get_or-map-range_with_len}
use Rattle.std.proofs.lemmas.Nat.{div-add-mod', div_below, mod_below}
use Rattle.std.proofs.lemmas.Nat.Bits.{bit_at-zero, bit_at_set_same, bit_at_set_other, bit_at_clear_same, bit_at_clear_other, shr_and_one}
use Rattle.std.proofs.lemmas.Bool.{cases_eq, cases_lt}
use Rattle.dym_bits.specs.Bits.{digit, digits, bits_of, clear_bits}

-- ---- the bits of one number

pub length-digits : (k n : ℕ) → length (digits k n) ≡ k
unfolding digits
length-digits k n = length-map-range_with_len (digit n) 0 k

pub get_or-digits : (k n i : ℕ) → i < k → get_or (digits k n) i false ≡ digit n i
unfolding digits
get_or-digits k n i below = get_or-map-range_with_len (digit n) 0 k i i false below (zero-add i)

-- what is known of a bit as a number, of the bit as a truth value
pub digit_is_set : (n i : ℕ) → bit_at n i ≡ 1 → digit n i ≡ true
digit_is_set n i one = ap (λ b. nat_eq b 1) one

pub digit_is_clear : (n i : ℕ) → bit_at n i ≡ 0 → digit n i ≡ false
digit_is_clear n i none = ap (λ b. nat_eq b 1) none

-- ---- clear bits

pub length-clear_bits : (n : ℕ) → length (clear_bits n) ≡ n
unfolding clear_bits
length-clear_bits n = length-replicate n false

pub get_or-clear_bits : (n i : ℕ) → get_or (clear_bits n) i false ≡ false
unfolding clear_bits
get_or-clear_bits n i =
    elim (cases_lt i n) [
      | inl below ↦ get_or-replicate n i false false below
      | inr past ↦ get_or_past (replicate n false) i false (omega (arith, length-replicate n false))
    ]

-- clear bits after a list add nothing that a read past its end doesn't say
pub get_or-clear_after : (bits : List Bool) (n i : ℕ) → get_or (bits ++ clear_bits n) i false ≡ get_or bits i false
get_or-clear_after bits n i =
    elim (cases_lt i (length bits)) [
      | inl below ↦ get_or_append_left bits (clear_bits n) false i below
      | inr past ↦
          get_or-append_right bits (clear_bits n) (length bits) i false refl past
          ∙ get_or-clear_bits n (i - length bits)
          ∙ sym (get_or_past bits i false past)
    ]

-- ---- the bits of many numbers

pub length-bits_of : (k : ℕ) (ns : List ℕ) → length (bits_of k ns) ≡ length ns * k
unfolding bits_of
length-bits_of k [] = omega arith
length-bits_of k (n ∷ ns) =
    length-append (digits k n) (bits_of k ns) ∙ omega (arith, length-digits k n, length-bits_of k ns)

-- bit q * k + r is bit r of number q
pub get_or-bits_of : (k : ℕ) (ns : List ℕ) (q r : ℕ) → q < length ns → r < k → get_or (bits_of k ns) (q * k + r) false ≡ digit (get_or ns q 0) r
unfolding bits_of
get_or-bits_of k [] q r below_end below_width = absurd (omega arith)
get_or-bits_of k (n ∷ ns) zero r below_end below_width =
    let at : zero * k + r ≡ r = omega arith in
    rw at (get_or_append_left (digits k n) (bits_of k ns) false r (omega (arith, length-digits k n)) ∙ get_or-digits k n r below_width)
get_or-bits_of k (n ∷ ns) (suc q) r below_end below_width =
    let at : suc q * k + r ≡ length (digits k n) + (q * k + r) = omega (arith, length-digits k n) in
    rw at (get_or-append-add (digits k n) (bits_of k ns) (q * k + r) false ∙ get_or-bits_of k ns q r (omega arith) below_width)

-- bit i is bit i % k of number i / k
pub get_or-bits_of_at : (k : ℕ) (ns : List ℕ) (i : ℕ) → 0 < k → i < length ns * k → get_or (bits_of k ns) i false ≡ digit (get_or ns (i / k) 0) (i % k)
get_or-bits_of_at k ns i some within =
    ap (λ j. get_or (bits_of k ns) j false) (sym (div-add-mod' i k))
    ∙ get_or-bits_of k ns (i / k) (i % k) (div_below i k (length ns) some within) (mod_below i k some)

-- numbers that are all 0 have clear bits
pub bits_of-replicate : (k m : ℕ) → 0 < k → bits_of k (replicate m 0) ≡ clear_bits (m * k)
bits_of-replicate k m some =
    ext_get_or false _ _
    (length-bits_of k (replicate m 0) ∙ ap (λ n. n * k) (length-replicate m 0) ∙ sym (length-clear_bits (m * k)))
    (λ i below.
    let within : i < length (replicate m 0) * k = omega (arith, length-bits_of k (replicate m 0)) in
    get_or-bits_of_at k (replicate m 0) i some within
    ∙ ap (λ n. digit n (i % k)) (get_or-replicate m (i / k) 0 0 (div_below i k m some (omega (arith, ap (λ n. n * k) (length-replicate {A = ℕ} m 0)))))
    ∙ digit_is_clear 0 (i % k) (bit_at-zero (i % k))
    ∙ sym (get_or-clear_bits (m * k) i))

-- a bit of that list of numbers elsewhere
changed_elsewhere : (k : ℕ) (ns : List ℕ) (i j n : ℕ) → j ≢ i → ((r : ℕ) → r < k → r ≢ i % k → digit n r ≡ digit (get_or ns (i / k) 0) r) → j % k < k → i / k < length ns → digit (get_or (set ns (i / k) n) (j / k) 0) (j % k) ≡ digit (get_or ns (j / k) 0) (j % k)
changed_elsewhere k ns i j n other elsewhere below_width below_end =
    elim (cases_eq (j / k) (i / k)) [
      | inl same ↦
          ap (λ q. digit (get_or (set ns (i / k) n) q 0) (j % k)) same
          ∙ ap (λ m. digit m (j % k)) (get_or-set_same ns (i / k) n 0 below_end)
          ∙ elsewhere (j % k) below_width (λ alike. other (sym (div-add-mod' j k) ∙ ap (λ q. q * k + j % k) same ∙ ap (λ r. i / k * k + r) alike ∙ div-add-mod' i k))
          ∙ sym (ap (λ q. digit (get_or ns q 0) (j % k)) same)
      | inr apart ↦ ap (λ m. digit m (j % k)) (get_or-set_other ns (i / k) (j / k) n 0 apart)
    ]

-- a number that differs at one bit alone
pub bits_of-set : (k : ℕ) (ns : List ℕ) (i n : ℕ) (v : Bool) → 0 < k → i < length ns * k → digit n (i % k) ≡ v → ((r : ℕ) → r < k → r ≢ i % k → digit n r ≡ digit (get_or ns (i / k) 0) r) → bits_of k (set ns (i / k) n) ≡ set (bits_of k ns) i v
bits_of-set k ns i n v some within at_place elsewhere =
    ext_get_or false _ _
    (length-bits_of k (set ns (i / k) n) ∙ ap (λ m. m * k) (length-set ns (i / k) n) ∙ sym (length-bits_of k ns) ∙ sym (length-set (bits_of k ns) i v))
    (λ j below.
    let length_is : length (bits_of k (set ns (i / k) n)) ≡ length ns * k = length-bits_of k (set ns (i / k) n) ∙ ap (λ m. m * k) (length-set ns (i / k) n) in
    let reads : get_or (bits_of k (set ns (i / k) n)) j false ≡ digit (get_or (set ns (i / k) n) (j / k) 0) (j % k)
    = get_or-bits_of_at k (set ns (i / k) n) j some (omega (arith, length-bits_of k (set ns (i / k) n))) in
    elim (cases_eq j i) [
      | inl same ↦
          reads
          ∙ ap (λ m. digit (get_or (set ns (i / k) n) (m / k) 0) (m % k)) same
          ∙ ap (λ m. digit m (i % k)) (get_or-set_same ns (i / k) n 0 (div_below i k (length ns) some within))
          ∙ at_place
          ∙ sym (ap (λ m. get_or (set (bits_of k ns) i v) m false) same ∙ get_or-set_same (bits_of k ns) i v false (omega (arith, length-bits_of k ns)))
      | inr other ↦
          reads
          ∙ changed_elsewhere k ns i j n other elsewhere (mod_below j k some) (div_below i k (length ns) some within)
          ∙ sym (get_or-bits_of_at k ns j some (omega arith))
          ∙ sym (get_or-set_other (bits_of k ns) i j v false other)
    ])

-- ---- words of 64 bits

pub length_of_words : (ns : List ℕ) → length ns ≡ 32 → length (bits_of 64 ns) ≡ 2048
length_of_words ns told = length-bits_of 64 ns ∙ ap (λ m. m * 64) told

pub word_bit : (ns : List ℕ) (i : ℕ) → i < length ns * 64 → nat_eq (bit_and (get_or ns (i / 64) 0 / 2 ^ (i % 64)) 1) 1 ≡ get_or (bits_of 64 ns) i false
word_bit ns i within =
    ap (λ b. nat_eq b 1) (shr_and_one (get_or ns (i / 64) 0) (i % 64))
    ∙ sym (get_or-bits_of_at 64 ns i (omega arith) within)

pub word_with_bit : (ns : List ℕ) (i : ℕ) → i < length ns * 64 → bits_of 64 (set ns (i / 64) (bit_or (get_or ns (i / 64) 0) (1 * 2 ^ (i % 64) % 2 ^ 64))) ≡ set (bits_of 64 ns) i true
word_with_bit ns i within =
    let n = get_or ns (i / 64) 0 in
    let m = bit_or n (1 * 2 ^ (i % 64) % 2 ^ 64) in
    bits_of-set 64 ns i m true (omega arith) within
    (digit_is_set m (i % 64) (bit_at_set_same w64 n (i % 64) (omega arith)))
    (λ r below other. ap (λ b. nat_eq b 1) (bit_at_set_other w64 n (i % 64) (omega arith) r other))

pub word_without_bit : (ns : List ℕ) (i : ℕ) → i < length ns * 64 → bits_of 64 (set ns (i / 64) (bit_and (get_or ns (i / 64) 0) (bit_not w64 (1 * 2 ^ (i % 64) % 2 ^ 64)))) ≡ set (bits_of 64 ns) i false
word_without_bit ns i within =
    let n = get_or ns (i / 64) 0 in
    let m = bit_and n (bit_not w64 (1 * 2 ^ (i % 64) % 2 ^ 64)) in
    bits_of-set 64 ns i m false (omega arith) within
    (digit_is_clear m (i % 64) (bit_at_clear_same w64 n (i % 64) (omega arith)))
    (λ r below other. ap (λ b. nat_eq b 1) (bit_at_clear_other w64 n (i % 64) (omega arith) r below other))
