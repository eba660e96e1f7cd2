-- Bits that are left of a byte without those of two others.
use Rattle.std.proofs.Common.{◌≡◌, ℕ, ◌+◌, ◌-◌, ◌*◌, ◌/◌, ◌%◌, ◌^◌, ◌<◌, true, false, List, [], length, get_or, sym, ◌∙◌, ap, arith, inl, inr, min, bit_and, w8}
use Rattle.std.specs.Int.{bit_at, bit_not, trailing_zeros}
use Rattle.std.proofs.lemmas.List.{get_or_past}
use Rattle.std.proofs.lemmas.Nat.{div-add-mod'}
use Rattle.std.proofs.lemmas.Nat.Bits.{bit_at_and, bit_at-lt, bit_at-trailing_zeros, bit_at_not, bit_at-zero}
use Rattle.std.proofs.lemmas.Bool.{cases_lt, eqb-true, true≢false}
use Rattle.std.proofs.Math.Nat.{pos_of_ne-zero}
use Rattle.dym_bits.specs.Bits.{digit, bits_of}
use Rattle.dym_bits.proofs.BitmapLemmas.{digit_is_set, digit_is_clear, length-bits_of, get_or-bits_of}

-- what is left of a byte without two others
abbrev pub left_of : ℕ → ℕ → ℕ → ℕ
left_of a b d = bit_and (bit_and a (bit_not w8 b)) (bit_not w8 d)

-- a bit of it
left_bit : (a b d r : ℕ) → b < 2 ^ 8 → d < 2 ^ 8 → r < 8 → bit_at (left_of a b d) r ≡ min (min (bit_at a r) (1 - bit_at b r)) (1 - bit_at d r)
left_bit a b d r small also short =
    bit_at_and (bit_and a (bit_not w8 b)) (bit_not w8 d) r
    ∙ ap (λ m. min m (bit_at (bit_not w8 d) r)) (bit_at_and a (bit_not w8 b) r)
    ∙ ap (λ m. min (min (bit_at a r) m) (bit_at (bit_not w8 d) r)) (bit_at_not w8 b r small short)
    ∙ ap (λ m. min (min (bit_at a r) (1 - bit_at b r)) m) (bit_at_not w8 d r also short)

is_clear : (n r : ℕ) → digit n r ≡ false → bit_at n r ≡ 0
is_clear n r clear =
    elim (cases_lt (bit_at n r) 1) as (λ _. bit_at n r ≡ 0) [
      | inl none ↦ omega arith
      | inr one ↦ absurd (true≢false (sym (digit_is_set n r (omega (arith, bit_at-lt n r))) ∙ clear))
    ]

set_in_last : (a b d r : ℕ) → b < 2 ^ 8 → d < 2 ^ 8 → r < 8 → left_of a b d ≡ 0 → digit a r ≡ true → digit b r ≡ false → digit d r ≡ true
set_in_last a b d r small also short none set clear =
    let one : bit_at a r ≡ 1 = eqb-true (bit_at a r) 1 set in
    let zero : bit_at b r ≡ 0 = is_clear b r clear in
    let left : min (min (bit_at a r) (1 - bit_at b r)) (1 - bit_at d r) ≡ 0 = sym (left_bit a b d r small also short) ∙ ap (λ m. bit_at m r) none ∙ bit_at-zero r in
    digit_is_set d r (omega (arith, bit_at-lt d r))

-- bit r of byte q, where bytes past the end are 0
bit_is : (ns : List ℕ) (q r : ℕ) → r < 8 → get_or (bits_of 8 ns) (q * 8 + r) false ≡ digit (get_or ns q 0) r
bit_is ns q r short =
    elim (cases_lt q (length ns)) as (λ _. get_or (bits_of 8 ns) (q * 8 + r) false ≡ digit (get_or ns q 0) r) [
      | inl inside ↦ get_or-bits_of 8 ns q r inside short
      | inr past ↦ get_or_past (bits_of 8 ns) (q * 8 + r) false (omega (arith, length-bits_of 8 ns))
          ∙ sym (digit_is_clear (get_or ns q 0) r (ap (λ n. bit_at n r) (get_or_past ns q 0 past) ∙ bit_at-zero r))
    ]

bit_of : (ns : List ℕ) (i : ℕ) → get_or (bits_of 8 ns) i false ≡ digit (get_or ns (i / 8) 0) (i % 8)
bit_of ns i = ap (λ k. get_or (bits_of 8 ns) k false) (sym (div-add-mod' i 8)) ∙ bit_is ns (i / 8) (i % 8) (omega arith)

pub covered_by : (xs ys zs : List ℕ) → ((p : ℕ) → get_or ys p 0 < 2 ^ 8) → ((p : ℕ) → get_or zs p 0 < 2 ^ 8) → ((p : ℕ) → p < length xs → left_of (get_or xs p 0) (get_or ys p 0) (get_or zs p 0) ≡ 0)
    → (i : ℕ) → get_or (bits_of 8 xs) i false ≡ true → get_or (bits_of 8 ys) i false ≡ false → get_or (bits_of 8 zs) i false ≡ true
covered_by xs ys zs small also none i set clear =
    elim (cases_lt (i / 8) (length xs)) as (λ _. get_or (bits_of 8 zs) i false ≡ true) [
      | inl inside ↦
          bit_of zs i
          ∙ set_in_last (get_or xs (i / 8) 0) (get_or ys (i / 8) 0) (get_or zs (i / 8) 0) (i % 8) (small (i / 8)) (also (i / 8)) (omega arith) (none (i / 8) inside) (sym (bit_of xs i) ∙ set) (sym (bit_of ys i) ∙ clear)
      | inr past ↦ absurd (true≢false (sym set ∙ get_or_past (bits_of 8 xs) i false (omega (arith, length-bits_of 8 xs, div-add-mod' i 8))))
    ]

pub bare_at : (xs ys zs : List ℕ) (q : ℕ) → get_or ys q 0 < 2 ^ 8 → get_or zs q 0 < 2 ^ 8 → left_of (get_or xs q 0) (get_or ys q 0) (get_or zs q 0) < 2 ^ 8
    → (left_of (get_or xs q 0) (get_or ys q 0) (get_or zs q 0) ≡ 0 → ⊥)
    → (i : ℕ) × (get_or (bits_of 8 xs) i false ≡ true) × (get_or (bits_of 8 ys) i false ≡ false) × (get_or (bits_of 8 zs) i false ≡ false)
bare_at xs ys zs q small also fits some =
    let a = get_or xs q 0 in
    let b = get_or ys q 0 in
    let d = get_or zs q 0 in
    let rest = left_of a b d in
    let r = trailing_zeros w8 rest in
    let found = bit_at-trailing_zeros w8 rest (pos_of_ne-zero some) fits in
    let short : r < 8 = found.0 in
    let one : min (min (bit_at a r) (1 - bit_at b r)) (1 - bit_at d r) ≡ 1 = sym (left_bit a b d r small also short) ∙ found.1 in (
      q * 8 + r,
      bit_is xs q r short ∙ digit_is_set a r (omega (arith, bit_at-lt a r)),
      bit_is ys q r short ∙ digit_is_clear b r (omega (arith, bit_at-lt b r)),
      bit_is zs q r short ∙ digit_is_clear d r (omega (arith, bit_at-lt d r)),
    )

-- no bytes have no bit
pub none_in : (i : ℕ) → get_or (bits_of 8 []) i false ≡ false
none_in i = get_or_past (bits_of 8 []) i false (omega (arith, length-bits_of 8 []))
