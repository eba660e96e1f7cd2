-- Words that are 0 from one place on.
use Rattle.std.proofs.Common.{◌≡◌, ◌≢◌, ℕ, ◌+◌, ◌-◌, ◌*◌, ◌/◌, ◌%◌, ◌≤◌, false, List, length, drop, set, get_or, replicate, sym, ◌∙◌, ap, arith, inl, inr, bit_or}
use Rattle.std.proofs.lemmas.List.{get_or_past, get_or-replicate, length-replicate, get_or-set_other, ext_get_or, get_or-drop, length-drop}
use Rattle.std.proofs.lemmas.Nat.Bits.{bit_at-zero}
use Rattle.std.specs.Int.{bit_at}
use Rattle.std.proofs.lemmas.Bool.{cases_lt}
use Rattle.dym_bits.specs.Bits.{bits_of, AreZeroFrom}
use Rattle.dym_bits.proofs.BitmapLemmas.{digit_is_clear, length-bits_of, get_or-bits_of_at}

pub zero_of_zeros : (m q : ℕ) → get_or (replicate {A = ℕ} m 0) q 0 ≡ 0
zero_of_zeros m q =
    elim (cases_lt q m) [
      | inl below ↦ get_or-replicate m q 0 0 below
      | inr past ↦ get_or_past (replicate m 0) q 0 (omega (arith, length-replicate {A = ℕ} m 0))
    ]

-- the word before the rest was put
pub rest_after : (ns : List ℕ) (q n : ℕ) → AreZeroFrom q ns → AreZeroFrom (q + 1) (set ns q n)
rest_after ns q n rest p past =
    let other : p ≢ q = λ same. absurd (omega arith) in
    get_or-set_other ns q p n 0 other ∙ rest p (omega arith)

-- the bits of the rest are clear
pub clear_past_used : (ns : List ℕ) (used i : ℕ) → AreZeroFrom used ns → used * 64 ≤ i → get_or (bits_of 64 ns) i false ≡ false
clear_past_used ns used i rest past =
    elim (cases_lt i (length ns * 64)) [
      | inl below ↦
          get_or-bits_of_at 64 ns i (omega arith) below
          ∙ digit_is_clear (get_or ns (i / 64) 0) (i % 64) (ap (λ n. bit_at n (i % 64)) (rest (i / 64) (omega arith)) ∙ bit_at-zero (i % 64))
      | inr after ↦ get_or_past (bits_of 64 ns) i false (omega (arith, length-bits_of 64 ns))
    ]

-- the rest as a list
pub rest_is_zeros : (ns : List ℕ) (n m : ℕ) → length ns ≡ m → AreZeroFrom n ns → drop n ns ≡ replicate (m - n) 0
rest_is_zeros ns n m long rest =
    ext_get_or 0 _ _
    (length-drop n ns ∙ omega (arith, length-replicate {A = ℕ} (m - n) 0))
    (λ i below. get_or-drop n ns i 0 ∙ rest (n + i) (omega arith) ∙ sym (zero_of_zeros (m - n) i))

-- no bits in either of two words that are 0
pub none_in_either : (a b : ℕ) → a ≡ 0 → b ≡ 0 → bit_or a b ≡ 0
none_in_either a b x y = λ i. bit_or (x i) (y i)
