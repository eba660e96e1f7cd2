-- Whether the bits of some words are among those of others.
use Rattle.std.proofs.Common.{◌≡◌, ℕ, ◌+◌, ◌-◌, ◌*◌, ◌/◌, ◌%◌, ◌^◌, ◌<◌, ◌≤◌, true, false, List, length, get_or, sym, ◌∙◌, ap, arith, inl, inr, min, bit_and, w64}
use Rattle.std.specs.Int.{bit_at, bit_not, trailing_zeros}
use Rattle.std.proofs.lemmas.Nat.{div-add-mod'}
use Rattle.std.proofs.lemmas.Nat.Bits.{bit_at_and, bit_at-lt, bit_at-trailing_zeros, bit_at_not, bit_at-zero}
use Rattle.std.proofs.lemmas.Bool.{cases_lt, eqb-true, true≢false}
use Rattle.std.proofs.Math.Nat.{pos_of_ne-zero}
use Rattle.dym_bits.specs.Bits.{digit, bits_of, AreZeroFrom}
use Rattle.dym_bits.proofs.BitmapLemmas.{digit_is_set, digit_is_clear, get_or-bits_of, get_or-bits_of_at}
use Rattle.dym_bits.proofs.UsedWords.{clear_past_used}

-- a bit of one number without those of another
without : (a b r : ℕ) → b < 2 ^ 64 → r < 64 → bit_at (bit_and a (bit_not w64 b)) r ≡ min (bit_at a r) (1 - bit_at b r)
without a b r fits short = bit_at_and a (bit_not w64 b) r ∙ ap (min (bit_at a r)) (bit_at_not w64 b r fits short)

-- nothing is left of a number without the bits of another: each of its bits is there
set_in_both : (a b r : ℕ) → b < 2 ^ 64 → r < 64 → bit_and a (bit_not w64 b) ≡ 0 → digit a r ≡ true → digit b r ≡ true
set_in_both a b r fits short none set =
    let one : bit_at a r ≡ 1 = eqb-true (bit_at a r) 1 set in
    let left : min (bit_at a r) (1 - bit_at b r) ≡ 0 = sym (without a b r fits short) ∙ ap (λ m. bit_at m r) none ∙ bit_at-zero r in
    digit_is_set b r (omega (arith, bit_at-lt b r))

pub set_within : (xs ys : List ℕ) (used : ℕ) → length xs ≡ length ys → used ≤ length xs → AreZeroFrom used xs → ((p : ℕ) → p < used → get_or ys p 0 < 2 ^ 64) → ((p : ℕ) → p < used → bit_and (get_or xs p 0) (bit_not w64 (get_or ys p 0)) ≡ 0) → (k : ℕ) → get_or (bits_of 64 xs) k false ≡ true → get_or (bits_of 64 ys) k false ≡ true
set_within xs ys used long within rest fits none k set =
    elim (cases_lt k (used * 64)) [
      | inl below ↦ (
          let q : k / 64 < used = omega (arith, div-add-mod' k 64) in
          get_or-bits_of_at 64 ys k (omega arith) (omega arith)
          ∙ set_in_both (get_or xs (k / 64) 0) (get_or ys (k / 64) 0) (k % 64) (fits (k / 64) q) (omega arith) (none (k / 64) q)
          (sym (get_or-bits_of_at 64 xs k (omega arith) (omega arith)) ∙ set))
      | inr past ↦ absurd (true≢false (sym set ∙ clear_past_used xs used k rest past))
    ]

-- a word of which something is left has a bit that the other hasn't
pub set_outside : (xs ys : List ℕ) (q : ℕ) → q < length xs → q < length ys → get_or ys q 0 < 2 ^ 64 → bit_and (get_or xs q 0) (bit_not w64 (get_or ys q 0)) < 2 ^ 64 → (bit_and (get_or xs q 0) (bit_not w64 (get_or ys q 0)) ≡ 0 → ⊥) → (k : ℕ) × (get_or (bits_of 64 xs) k false ≡ true) × (get_or (bits_of 64 ys) k false ≡ false)
set_outside xs ys q inside also fits small some =
    let a = get_or xs q 0 in
    let b = get_or ys q 0 in
    let rest = bit_and a (bit_not w64 b) in
    let r = trailing_zeros w64 rest in
    let found = bit_at-trailing_zeros w64 rest (pos_of_ne-zero some) small in
    let short : r < 64 = found.0 in
    let one : min (bit_at a r) (1 - bit_at b r) ≡ 1 = sym (without a b r fits short) ∙ found.1 in (
      q * 64 + r,
      get_or-bits_of 64 xs q r inside short ∙ digit_is_set a r (omega (arith, bit_at-lt a r)),
      get_or-bits_of 64 ys q r also short ∙ digit_is_clear b r (omega (arith, bit_at-lt b r)),
    )
