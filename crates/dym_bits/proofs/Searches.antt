-- What the searches by words of 64 bits find, as facts on the list of bits.
use Rattle.std.proofs.Common.{◌≡◌, ℕ, suc, ◌+◌, ◌-◌, ◌*◌, ◌/◌, ◌%◌, ◌^◌, ◌<◌, ◌≤◌, Bool, true, false, List, length, get_or, sym, ◌∙◌, ap, arith, inl, inr, min, bit_and, w64}
use Rattle.std.specs.Int.{bit_at, bit_not, trailing_ones, trailing_zeros}
use Rattle.std.proofs.lemmas.List.{get_or_past}
use Rattle.std.proofs.lemmas.Nat.{div-add-mod', div_below, le-div, pow_pos}
use Rattle.std.proofs.lemmas.Nat.Bits.{bit_at_and, bit_at-lt, bit_at_mask_inside, bit_at_mask_below, bit_at-trailing_zeros, bit_at_ones, bit_at_above, bit_at_not, ones_shl, bit_at-zero}
use Rattle.std.proofs.lemmas.Bool.{cases_eq, cases_lt}
use Rattle.std.proofs.lemmas.Nat.{and_le_l}
use Rattle.dym_bits.specs.Bits.{digit, bits_of, IsFirstClear, IsNextSet, IsNextClear, IsNextClearInWord, IsTopSet}
use Rattle.dym_bits.proofs.BitmapLemmas.{digit_is_set, digit_is_clear, length-bits_of, get_or-bits_of, get_or-bits_of_at}
use Rattle.std.proofs.Math.Nat.{pos_of_ne-zero, pow-suc}

-- ---- one word

-- a word without its bits below bit a
abbrev pub from_bit : ℕ → ℕ → ℕ
from_bit n a = bit_and n ((2 ^ 64 - 1) * 2 ^ a % 2 ^ 64)

from_bit_le : (n a : ℕ) → from_bit n a ≤ n
from_bit_le n a = and_le_l n ((2 ^ 64 - 1) * 2 ^ a % 2 ^ 64)

digit_masked : (n a r : ℕ) → a ≤ r → r < 64 → bit_at (from_bit n a) r ≡ bit_at n r
digit_masked n a r at_least short =
    ap (λ m. bit_at (bit_and n m) r) (ones_shl 64 a (omega arith))
    ∙ bit_at_and n (2 ^ 64 - 2 ^ a) r
    ∙ ap (min (bit_at n r)) (bit_at_mask_inside a 64 r at_least short)
    ∙ omega (arith, bit_at-lt n r)

digit_masked_below : (n a r : ℕ) → r < a → a ≤ 64 → bit_at (from_bit n a) r ≡ 0
digit_masked_below n a r below short =
    ap (λ m. bit_at (bit_and n m) r) (ones_shl 64 a (omega arith))
    ∙ bit_at_and n (2 ^ 64 - 2 ^ a) r
    ∙ ap (min (bit_at n r)) (bit_at_mask_below a 64 r below)
    ∙ omega arith

-- a search sees each word as it stands or turned: 0 for a bit v, and 1 for the bit w that it looks for. A word has no such bit where it is `blank`
record IsSight (seen : ℕ → ℕ) (blank : ℕ) (v w : Bool) : Type 0 where
  none : (n r : ℕ) → n < 2 ^ 64 → r < 64 → bit_at (seen n) r ≡ 0 → digit n r ≡ v
  one : (n r : ℕ) → n < 2 ^ 64 → r < 64 → bit_at (seen n) r ≡ 1 → digit n r ≡ w
  empty : (r : ℕ) → r < 64 → digit blank r ≡ v
  fits : (n : ℕ) → n < 2 ^ 64 → seen n < 2 ^ 64

as_it_stands : IsSight (λ n. n) 0 false true
as_it_stands = record {
  none = λ n r _ _ zero. digit_is_clear n r zero;
  one = λ n r _ _ one. digit_is_set n r one;
  empty = λ r _. digit_is_clear 0 r (bit_at-zero r);
  fits = λ n fits. fits;
}

turned : IsSight (bit_not w64) (2 ^ 64 - 1) true false
turned = record {
  none = λ n r fits short zero. digit_is_set n r (omega (arith, zero, bit_at_not w64 n r fits short, bit_at-lt n r));
  one = λ n r fits short one. digit_is_clear n r (omega (arith, one, bit_at_not w64 n r fits short, bit_at-lt n r));
  empty = λ r short. digit_is_set (2 ^ 64 - 1) r (bit_at_ones 64 r short);
  fits = λ n fits. omega arith;
}

one_is_not_none : (a : ℕ) → a ≡ 1 → a ≡ 0 → ⊥
one_is_not_none a one none = omega arith

-- the highest 1 of a number between 2 ^ r and 2 ^ (r + 1)
top_digit : (n r : ℕ) → 2 ^ r ≤ n → n < 2 * 2 ^ r → digit n r ≡ true
top_digit n r least below =
    let some : 1 ≤ n / 2 ^ r = le-div 1 n (2 ^ r) (pow_pos r) (omega arith) in
    let few : n / 2 ^ r < 2 = div_below n (2 ^ r) 2 (pow_pos r) below in
    let one : n / 2 ^ r ≡ 1 = omega arith in
    digit_is_set n r (ap (λ m. m % 2) one)

-- ---- all words

-- i is the least index of a bit w that is at least `from`: from there up to it are bits v
record IsNext (v w : Bool) (bits : List Bool) (from i : ℕ) : Type 0 where
  within : i < length bits
  at_least : from ≤ i
  is : get_or bits i false ≡ w
  least : (k : ℕ) → from ≤ k → k < i → get_or bits k false ≡ v

next_set : {bits : List Bool} {from i : ℕ} → IsNext false true bits from i → IsNextSet bits from i
next_set next = record { within = next.within; at_least = next.at_least; is_set = next.is; least = next.least }

next_clear : {bits : List Bool} {from i : ℕ} → IsNext true false bits from i → IsNextClear bits from i
next_clear next = record { within = next.within; at_least = next.at_least; is_clear = next.is; least = next.least }

module _ (ns : List ℕ) where
  abbrev bits : List Bool
  bits = bits_of 64 ns

  abbrev word : ℕ → ℕ
  word q = get_or ns q 0

  -- all bits from one place up to another are bits v
  abbrev AreAlike : Bool → ℕ → ℕ → Type 0
  AreAlike v from to = (i : ℕ) → from ≤ i → i < to → get_or bits i false ≡ v

  -- the words below word q are this number, or those of them behind word `first`
  abbrev AllBelow : ℕ → ℕ → Type 0
  AllBelow n q = (p : ℕ) → p < q → word p ≡ n

  abbrev AllBetween : ℕ → ℕ → ℕ → Type 0
  AllBetween n first q = (p : ℕ) → first < p → p < q → word p ≡ n

  -- bits are alike where those of each word are
  alike_between : (v : Bool) (from to : ℕ) → to ≤ length ns * 64 → ((q r : ℕ) → r < 64 → from ≤ q * 64 + r → q * 64 + r < to → digit (word q) r ≡ v) → AreAlike v from to
  alike_between v from to within each i at_least below =
      get_or-bits_of_at 64 ns i (omega arith) (omega arith)
      ∙ each (i / 64) (i % 64) (omega arith) (omega (arith, div-add-mod' i 64)) (omega (arith, div-add-mod' i 64))

  clear_past : (i : ℕ) → length ns * 64 ≤ i → get_or bits i false ≡ false
  clear_past i past = get_or_past bits i false (omega (arith, length-bits_of 64 ns))

  module _ {seen : ℕ → ℕ} {blank : ℕ} {v w : Bool} (sight : IsSight seen blank v w) (from : ℕ) where
    -- the words below word q have no bit to be found from `from` on
    abbrev NoneBelow : ℕ → Type 0
    NoneBelow q = (p r : ℕ) → r < 64 → from ≤ p * 64 + r → p < q → digit (word p) r ≡ v

    blank_digit : (p r : ℕ) → r < 64 → word p ≡ blank → digit (word p) r ≡ v
    blank_digit p r short is = ap (λ n. digit n r) is ∙ sight.empty r short

    -- the first word that isn't blank
    found_behind : (q : ℕ) → q < length ns → word q < 2 ^ 64 → (seen (word q) ≡ 0 → ⊥) → from ≤ q * 64 → NoneBelow q → IsNext v w bits from (q * 64 + trailing_zeros w64 (seen (word q)))
    found_behind q within fits some at_least before =
        let r = trailing_zeros w64 (seen (word q)) in
        let found = bit_at-trailing_zeros w64 (seen (word q)) (pos_of_ne-zero some) (sight.fits (word q) fits) in
        let inside : r < 64 = found.0 in
        record {
          within = omega (arith, length-bits_of 64 ns);
          at_least = omega arith;
          is = get_or-bits_of 64 ns q r within inside ∙ sight.one (word q) r fits inside found.1;
          least = alike_between v from (q * 64 + r) (omega arith)
              (λ p j short from_here below.
              elim (cases_eq p q) [
                | inl same ↦ ap (λ m. digit (word m) j) same ∙ sight.none (word q) j fits short (found.2 j (omega arith))
                | inr other ↦ before p j short from_here (omega arith)
              ]);
        }

    module _ (fits : word (from / 64) < 2 ^ 64) where
      abbrev rest : ℕ
      rest = from_bit (seen (word (from / 64))) (from % 64)

      -- in the word where `from` lies
      found_here : from < length ns * 64 → (rest ≡ 0 → ⊥) → IsNext v w bits from (from / 64 * 64 + trailing_zeros w64 rest)
      found_here within some =
          let n = word (from / 64) in
          let a = from % 64 in
          let r = trailing_zeros w64 rest in
          let found = bit_at-trailing_zeros w64 rest (pos_of_ne-zero some) (omega (arith, from_bit_le (seen n) a, sight.fits n fits)) in
          let inside : r < 64 = found.0 in
          let at_least : a ≤ r
          = elim (cases_lt r a) [ inl before ↦ absurd (one_is_not_none (bit_at rest r) found.1 (digit_masked_below (seen n) a r before (omega arith))) | inr after ↦ after ] in
          record {
            within = omega (arith, length-bits_of 64 ns);
            at_least = omega (arith, div-add-mod' from 64);
            is = get_or-bits_of 64 ns (from / 64) r (omega arith) inside ∙ sight.one n r fits inside (sym (digit_masked (seen n) a r at_least inside) ∙ found.1);
            least = alike_between v from (from / 64 * 64 + r) (omega arith)
                (λ q j short from_here before.
                let same : q ≡ from / 64 = omega (arith, div-add-mod' from 64) in
                let after : a ≤ j = omega (arith, div-add-mod' from 64) in
                ap (λ m. digit (word m) j) same
                ∙ sight.none n j fits short (sym (digit_masked (seen n) a j after short) ∙ found.2 j (omega arith)));
          }

      alike_here : rest ≡ 0 → (r : ℕ) → from % 64 ≤ r → r < 64 → digit (word (from / 64)) r ≡ v
      alike_here none r at_least short =
          sight.none (word (from / 64)) r fits short (sym (digit_masked (seen (word (from / 64))) (from % 64) r at_least short) ∙ ap (λ m. bit_at m r) none ∙ bit_at-zero r)

      -- neither there nor in the blank words before word q
      alike_before : (q : ℕ) → rest ≡ 0 → AllBetween blank (from / 64) q → NoneBelow q
      alike_before q none blanks p r short from_here before =
          elim (cases_eq p (from / 64)) [
            | inl same ↦ ap (λ m. digit (word m) r) same ∙ alike_here none r (omega (arith, div-add-mod' from 64)) short
            | inr other ↦ blank_digit p r short (blanks p (omega (arith, div-add-mod' from 64)) before)
          ]

      none_before : (to q : ℕ) → to ≤ length ns * 64 → to ≤ q * 64 → rest ≡ 0 → AllBetween blank (from / 64) q → AreAlike v from to
      none_before to q within reached none blanks =
          alike_between v from to within (λ p r short from_here before. alike_before q none blanks p r short from_here (omega arith))

  -- ---- the first clear bit

  -- the words before word q are full, and word q isn't
  first_clear_at : (q : ℕ) → q < length ns → word q + 1 < 2 ^ 64 → AllBelow (2 ^ 64 - 1) q → IsNext true false bits 0 (q * 64 + trailing_ones w64 (word q))
  first_clear_at q within room full =
      found_behind turned 0 q within (omega arith) (λ none. omega arith) (omega arith) (λ p r short _ before. blank_digit turned 0 p r short (full p before))

  pub set_before_clear : (q : ℕ) → q < length ns → word q + 1 < 2 ^ 64 → AllBelow (2 ^ 64 - 1) q → (i : ℕ) → i < q * 64 + trailing_ones w64 (word q) → get_or bits i false ≡ true
  set_before_clear q within room full i below = (first_clear_at q within room full).least i (omega arith) below

  pub first_clear_found : (q limit : ℕ) → q < length ns → word q + 1 < 2 ^ 64 → AllBelow (2 ^ 64 - 1) q → q * 64 + trailing_ones w64 (word q) < limit → IsFirstClear bits limit (q * 64 + trailing_ones w64 (word q))
  first_clear_found q limit within room full below =
      record { below = below; is_clear = (first_clear_at q within room full).is; least = set_before_clear q within room full }

  pub none_clear : (limit : ℕ) → limit ≤ length ns * 64 → AllBelow (2 ^ 64 - 1) (length ns) → (i : ℕ) → i < limit → get_or bits i false ≡ true
  none_clear limit within full i below =
      alike_between true 0 limit within (λ p r short _ before. blank_digit turned 0 p r short (full p (omega arith))) i (omega arith) below

  -- ---- the next set bit

  abbrev set_rest : ℕ → ℕ
  set_rest from = from_bit (word (from / 64)) (from % 64)

  pub next_set_in_rest : (from : ℕ) → from < length ns * 64 → word (from / 64) < 2 ^ 64 → (set_rest from ≡ 0 → ⊥) → IsNextSet bits from (from / 64 * 64 + trailing_zeros w64 (set_rest from))
  next_set_in_rest from within fits some = next_set (found_here as_it_stands from fits within some)

  pub next_set_in_word : (from q : ℕ) → q < length ns → from / 64 < q → word (from / 64) < 2 ^ 64 → set_rest from ≡ 0 → AllBetween 0 (from / 64) q → (word q ≡ 0 → ⊥) → word q < 2 ^ 64 → IsNextSet bits from (q * 64 + trailing_zeros w64 (word q))
  next_set_in_word from q within later first rest none some fits =
      next_set (found_behind as_it_stands from q within fits some (omega (arith, div-add-mod' from 64)) (alike_before as_it_stands from first q rest none))

  -- no bit is set in the words up to the one before `last`, nor from `limit` on
  pub none_set_within : (from limit last : ℕ) → limit ≤ length ns * 64 → limit ≤ last * 64 → word (from / 64) < 2 ^ 64 → set_rest from ≡ 0 → AllBetween 0 (from / 64) last → ((i : ℕ) → limit ≤ i → get_or bits i false ≡ false) → (i : ℕ) → from ≤ i → get_or bits i false ≡ false
  none_set_within from limit last within reached fits rest none clear i at_least =
      elim (cases_lt i limit) [
        | inl below ↦ none_before as_it_stands from fits limit last within reached rest none i at_least below
        | inr past ↦ clear i past
      ]

  -- ---- the next clear bit

  module _ (from : ℕ) (fits : word (from / 64) < 2 ^ 64) where
    abbrev clear_rest : ℕ
    clear_rest = from_bit (bit_not w64 (word (from / 64))) (from % 64)

    pub next_clear_in_rest : from < length ns * 64 → (clear_rest ≡ 0 → ⊥) → IsNextClear bits from (from / 64 * 64 + trailing_zeros w64 clear_rest)
    next_clear_in_rest within some = next_clear (found_here turned from fits within some)

    -- the next clear bit in the word where `from` lies
    pub next_clear_here : from < length ns * 64 → (clear_rest ≡ 0 → ⊥) → IsNextClearInWord bits from (from / 64 * 64 + trailing_zeros w64 clear_rest)
    next_clear_here within some =
        let small : clear_rest < 2 ^ 64 = omega (arith, from_bit_le (bit_not w64 (word (from / 64))) (from % 64)) in
        let inside : trailing_zeros w64 clear_rest < 64 = (bit_at-trailing_zeros w64 clear_rest (pos_of_ne-zero some) small).0 in
        record { next = next_clear_in_rest within some; word = omega arith }

    -- the bits of the word where `from` lies are set from there on
    pub set_here : from < length ns * 64 → clear_rest ≡ 0 → (i : ℕ) → from ≤ i → i / 64 ≡ from / 64 → get_or bits i false ≡ true
    set_here within none i at_least same =
        get_or-bits_of_at 64 ns i (omega arith) (omega (arith, div-add-mod' i 64, div-add-mod' from 64))
        ∙ ap (λ m. digit (word m) (i % 64)) same
        ∙ alike_here turned from fits none (i % 64) (omega (arith, div-add-mod' i 64, div-add-mod' from 64)) (omega arith)

    pub next_clear_in_word : (q : ℕ) → q < length ns → from / 64 < q → clear_rest ≡ 0 → AllBetween (2 ^ 64 - 1) (from / 64) q → word q + 1 < 2 ^ 64 → IsNextClear bits from (q * 64 + trailing_ones w64 (word q))
    next_clear_in_word q within later none full room =
        next_clear (found_behind turned from q within (omega arith) (λ blank. omega arith) (omega (arith, div-add-mod' from 64)) (alike_before turned from fits q none full))

    pub none_clear_from : clear_rest ≡ 0 → AllBetween (2 ^ 64 - 1) (from / 64) (length ns) → AreAlike true from (length ns * 64)
    none_clear_from none full = none_before turned from fits (length ns * 64) (length ns) (omega arith) (omega arith) none full

  -- ---- the last set bit

  pub top_set_in_word : (q r : ℕ) → q < length ns → r < 64 → 2 ^ r ≤ word q → word q < 2 * 2 ^ r → ((p : ℕ) → q < p → word p ≡ 0) → IsTopSet bits (q * 64 + r)
  top_set_in_word q r within inside least below none =
      record {
        within = omega (arith, length-bits_of 64 ns);
        is_set = get_or-bits_of 64 ns q r within inside ∙ top_digit (word q) r least below;
        greatest = λ i after.
            elim (cases_lt i (length ns * 64)) [
              | inl under ↦
                  alike_between false (q * 64 + r + 1) (length ns * 64) (omega arith)
                  (λ p j short from_here before.
                  elim (cases_eq p q) [
                    | inl same ↦ ap (λ m. digit (word m) j) same ∙ digit_is_clear (word q) j (bit_at_above (word q) (suc r) j (omega (arith, pow-suc 2 r)) (omega arith))
                    | inr other ↦ blank_digit as_it_stands 0 p j short (none p (omega arith))
                  ])
                  i (omega arith) under
              | inr past ↦ clear_past i past
            ];
      }

  pub none_set : ((p : ℕ) → word p ≡ 0) → (i : ℕ) → get_or bits i false ≡ false
  none_set none i =
      elim (cases_lt i (length ns * 64)) [
        | inl below ↦ alike_between false 0 (length ns * 64) (omega arith) (λ p j short _ before. blank_digit as_it_stands 0 p j short (none p)) i (omega arith) below
        | inr past ↦ clear_past i past
      ]
