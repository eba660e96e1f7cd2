-- Numbers of set bits.
use Rattle.std.proofs.Common.{◌≡◌, ℕ, zero, suc, ◌+◌, ◌-◌, ◌*◌, ◌/◌, ◌%◌, ◌^◌, ◌<◌, ◌≤◌, Bool, false, List, [], ◌∷◌, ◌++◌, length, take, drop, get_or, refl, sym, ◌∙◌, ap, arith, inl, inr, nat_eq, bit_and}
use Rattle.std.specs.Int.{bit_at}
use Rattle.std.proofs.lemmas.List.{ext_get_or, get_or-drop, get_or-take, get_or_past, take-append-drop, take-take}
use Rattle.std.proofs.lemmas.Nat.{div-add-mod', mod_below}
use Rattle.std.proofs.lemmas.Bool.{cases_eq, cases_lt}
use Rattle.dym_bits.specs.Bits.{digit, digits, bits_of}
use Rattle.dym_bits.proofs.BitmapLemmas.{length-digits, get_or-digits, length-bits_of}
use Rattle.dym_bits.specs.Bits.{set_count}
use Rattle.std.proofs.Math.Nat.{pow-suc, zero-mul}
use Rattle.std.proofs.lemmas.List.{append-nil, length-take}
use Rattle.std.proofs.lemmas.Nat.{pow_pos}
use Rattle.std.proofs.Common.{cond, count_ones, append_assoc}
use Rattle.std.proofs.lemmas.Grind.{flat_map-append}
use Rattle.std.proofs.lemmas.List.{take-append-le, take_all, take_more}
use Rattle.std.proofs.lemmas.List.FromFn.{take-map-range_with_len}
use Rattle.std.proofs.lemmas.List.Sums.{sum_by-cons, sum_by-append, count_by-le-length}
use Rattle.std.proofs.lemmas.Nat.{ones_cat, ones-le, ones_le_self, zero_from_ones, one_shl, and_mask}
use Rattle.std.proofs.lemmas.Nat.Bits.{bit_at-suc, bit_at_lowest, bit_at_cat_low}
use Rattle.std.proofs.Math.Seq.{take-append-add}

-- ---- one number

next_digit : (k n i : ℕ) → i < suc k → digit n i ≡ get_or (digit n 0 ∷ digits k (n / 2)) i false
next_digit k n zero below = refl
next_digit k n (suc i) below = ap (λ b. nat_eq b 1) (bit_at-suc n i) ∙ sym (get_or-digits k (n / 2) i (omega arith))

pub digits-suc : (k n : ℕ) → digits (suc k) n ≡ digit n 0 ∷ digits k (n / 2)
digits-suc k n =
    ext_get_or false _ _
    (length-digits (suc k) n ∙ sym (ap suc (length-digits k (n / 2))))
    (λ i below. get_or-digits (suc k) n i (omega (arith, length-digits (suc k) n)) ∙ next_digit k n i (omega (arith, length-digits (suc k) n)))

-- the lowest r bits of a number are those of its remainder
pub digits-mod : (r n : ℕ) → digits r n ≡ digits r (n % 2 ^ r)
digits-mod r n =
    ext_get_or false _ _ (length-digits r n ∙ sym (length-digits r (n % 2 ^ r)))
    (λ i below.
    let short : i < r = omega (arith, length-digits r n) in
    get_or-digits r n i short
    ∙ ap (λ b. nat_eq b 1) (ap (λ m. bit_at m i) (sym (div-add-mod' n (2 ^ r))) ∙ bit_at_cat_low (n / 2 ^ r) r (n % 2 ^ r) i short)
    ∙ sym (get_or-digits r (n % 2 ^ r) i short))

ones_of_bit : (b : ℕ) → b < 2 → cond (nat_eq b 1) 1 0 ≡ count_ones b
ones_of_bit zero below = omega (arith, ones_le_self 0)
ones_of_bit (suc zero) below =
    elim (cases_eq (count_ones 1) 0) [
      | inl none ↦ (let one : suc zero ≡ zero = zero_from_ones 1 none in absurd (omega arith))
      | inr some ↦ omega (arith, ones_le_self 1)
    ]
ones_of_bit (suc (suc b)) below = absurd (omega arith)

pub half_below : (k n : ℕ) → n < 2 ^ suc k → n / 2 < 2 ^ k
half_below k n below = omega (arith, pow-suc 2 k)

pub set_count-digits : (k n : ℕ) → n < 2 ^ k → set_count (digits k n) ≡ count_ones n
unfolding digits
set_count-digits zero n below = omega (arith, ones-le 0 n below)
set_count-digits (suc k) n below =
    ap set_count (digits-suc k n)
    ∙ sum_by-cons (λ b. cond b 1 0) (digit n 0) (digits k (n / 2))
    ∙ ap (λ m. cond (digit n 0) 1 0 + m) (set_count-digits k (n / 2) (half_below k n below))
    ∙ ap (λ m. m + count_ones (n / 2)) (ap (λ b. cond (nat_eq b 1) 1 0) (bit_at_lowest n) ∙ ones_of_bit (n % 2) (omega arith))
    ∙ sym (ap count_ones (sym (div-add-mod' n 2)) ∙ ones_cat 1 (n / 2) (n % 2) (omega arith) ∙ omega arith)

-- ---- many numbers

pub bits_of-append : (k : ℕ) (ms ns : List ℕ) → bits_of k (ms ++ ns) ≡ bits_of k ms ++ bits_of k ns
unfolding bits_of
bits_of-append k ms ns = flat_map-append (digits k) ms ns

pub bits_of-single : (k n : ℕ) → bits_of k (n ∷ []) ≡ digits k n
unfolding bits_of
bits_of-single k n = append-nil (digits k n)

-- one number more
pub bits_of-take_more : (k : ℕ) (ns : List ℕ) (i : ℕ) → i < length ns → bits_of k (take (i + 1) ns) ≡ bits_of k (take i ns) ++ digits k (get_or ns i 0)
bits_of-take_more k ns i within =
    ap (bits_of k) (take_more ns i 0 within)
    ∙ bits_of-append k (take i ns) (get_or ns i 0 ∷ [])
    ∙ ap (λ bits. bits_of k (take i ns) ++ bits) (bits_of-single k (get_or ns i 0))

pub take-bits_of : (k : ℕ) (ns : List ℕ) (q : ℕ) → take (q * k) (bits_of k ns) ≡ bits_of k (take q ns)
unfolding bits_of
take-bits_of k [] q = take_all (q * k) [] (omega arith) ∙ ap (bits_of k) (sym (take_all q [] (omega arith)))
take-bits_of k (n ∷ ns) zero = ap (λ m. take m (bits_of k (n ∷ ns))) (zero-mul k)
take-bits_of k (n ∷ ns) (suc q) =
    let at : suc q * k ≡ length (digits k n) + q * k = omega (arith, length-digits k n) in
    ap (λ m. take m (digits k n ++ bits_of k ns)) at
    ∙ take-append-add (digits k n) (bits_of k ns) (q * k)
    ∙ ap (λ bits. digits k n ++ bits) (take-bits_of k ns q)

pub take-digits : (k r n : ℕ) → r ≤ k → take r (digits k n) ≡ digits r n
unfolding digits
take-digits k r n short = take-map-range_with_len (digit n) 0 k r short

pub take-bits_of_rest : (k : ℕ) (ns : List ℕ) (q r : ℕ) → q < length ns → r ≤ k → take (q * k + r) (bits_of k ns) ≡ bits_of k (take q ns) ++ digits r (get_or ns q 0)
unfolding bits_of
take-bits_of_rest k [] q r within short = absurd (omega arith)
take-bits_of_rest k (n ∷ ns) zero r within short =
    let at : zero * k + r ≡ r = omega arith in
    ap (λ m. take m (digits k n ++ bits_of k ns)) at
    ∙ take-append-le r (digits k n) (bits_of k ns) (omega (arith, length-digits k n))
    ∙ take-digits k r n short
take-bits_of_rest k (n ∷ ns) (suc q) r within short =
    let at : suc q * k + r ≡ length (digits k n) + (q * k + r) = omega (arith, length-digits k n) in
    ap (λ m. take m (digits k n ++ bits_of k ns)) at
    ∙ take-append-add (digits k n) (bits_of k ns) (q * k + r)
    ∙ ap (λ bits. digits k n ++ bits) (take-bits_of_rest k ns q r (omega arith) short)
    ∙ sym (append_assoc (digits k n) (bits_of k (take q ns)) (digits r (get_or ns q 0)))

-- ---- counts of words

pub count_of_none : 0 ≡ set_count (bits_of 64 [])
unfolding bits_of
count_of_none = refl

pub count_below_length : (ns : List ℕ) (i : ℕ) → set_count (bits_of 64 (take i ns)) ≤ i * 64
count_below_length ns i =
    let short : length (take i ns) ≤ i = omega (arith, length-take i ns) in
    omega (arith, count_by-le-length (λ b. b) (bits_of 64 (take i ns)), length-bits_of 64 (take i ns))

pub count_more : (ns : List ℕ) (i : ℕ) → i < length ns → get_or ns i 0 < 2 ^ 64 → set_count (bits_of 64 (take i ns)) + count_ones (get_or ns i 0) ≡ set_count (bits_of 64 (take (i + 1) ns))
count_more ns i within fits =
    ap (λ m. set_count (bits_of 64 (take i ns)) + m) (sym (set_count-digits 64 (get_or ns i 0) fits))
    ∙ sym (sum_by-append (λ b. cond b 1 0) (bits_of 64 (take i ns)) (digits 64 (get_or ns i 0)))
    ∙ sym (ap set_count (bits_of-take_more 64 ns i within))

pub count_rest : (ns : List ℕ) (limit : ℕ) → limit / 64 < length ns → set_count (bits_of 64 (take (limit / 64) ns)) + count_ones (bit_and (get_or ns (limit / 64) 0) (1 * 2 ^ (limit % 64) % 2 ^ 64 - 1)) ≡ set_count (take limit (bits_of 64 ns))
count_rest ns limit within =
    let n = get_or ns (limit / 64) 0 in
    let r = limit % 64 in
    ap (λ m. set_count (bits_of 64 (take (limit / 64) ns)) + count_ones m)
    (ap (λ m. bit_and n (m - 1)) (one_shl r 64 (omega arith)) ∙ and_mask n r)
    ∙ ap (λ m. set_count (bits_of 64 (take (limit / 64) ns)) + m)
    (sym (ap set_count (digits-mod r n) ∙ set_count-digits r (n % 2 ^ r) (mod_below n (2 ^ r) (pow_pos r))))
    ∙ sym (sum_by-append (λ b. cond b 1 0) (bits_of 64 (take (limit / 64) ns)) (digits r n))
    ∙ sym (ap set_count (ap (λ m. take m (bits_of 64 ns)) (sym (div-add-mod' limit 64)) ∙ take-bits_of_rest 64 ns (limit / 64) r within (omega arith)))

pub count_whole : (ns : List ℕ) (limit : ℕ) → limit % 64 ≡ 0 → set_count (bits_of 64 (take (limit / 64) ns)) ≡ set_count (take limit (bits_of 64 ns))
count_whole ns limit whole =
    ap set_count (sym (take-bits_of 64 ns (limit / 64)) ∙ ap (λ m. take m (bits_of 64 ns)) (omega (arith, div-add-mod' limit 64)))

none_counted : (bits : List Bool) → ((i : ℕ) → get_or bits i false ≡ false) → set_count bits ≡ 0
none_counted [] clear = refl
none_counted (b ∷ bits) clear =
    sum_by-cons (λ b. cond b 1 0) b bits
    ∙ ap (λ n. cond b 1 0 + n) (none_counted bits (λ i. clear (suc i)))
    ∙ ap (λ c. cond c 1 0 + 0) (clear 0)

-- bits from `end` up to the limit that are clear add nothing
pub count_to : (bits : List Bool) (end limit : ℕ) → end ≤ limit → ((i : ℕ) → end ≤ i → i < limit → get_or bits i false ≡ false) → set_count (take end bits) ≡ set_count (take limit bits)
count_to bits end limit within clear =
    let rest = drop end (take limit bits) in
    let none : (i : ℕ) → get_or rest i false ≡ false
    = λ i. get_or-drop end (take limit bits) i false ∙ elim (cases_lt (end + i) limit) [
      | inl below ↦ get_or-take limit bits (end + i) false below ∙ clear (end + i) (omega arith) below
      | inr past ↦ get_or_past (take limit bits) (end + i) false (omega (arith, length-take limit bits))
    ] in
    sym (ap set_count (sym (take-append-drop end (take limit bits)) ∙ ap (λ front. front ++ rest) (take-take end limit bits within))
    ∙ sum_by-append (λ b. cond b 1 0) (take end bits) rest
    ∙ ap (λ n. set_count (take end bits) + n) (none_counted rest none)
    ∙ omega arith)
