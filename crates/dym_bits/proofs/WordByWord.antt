-- Bitmaps that are made word by word of two others.
use Rattle.std.proofs.Common.{◌≡◌, ℕ, ◌+◌, ◌*◌, ◌/◌, ◌%◌, ◌^◌, ◌<◌, ◌≤◌, Bool, false, not, ◌&&◌, ◌||◌, List, length, set, get_or, sym, ◌∙◌, ap, arith, inl, inr, max, min, nat_eq, bit_or, bit_and, w64}
use Rattle.std.specs.Int.{bit_at, bit_not}
use Rattle.std.proofs.lemmas.List.{get_or_past, get_or-set_same, get_or-set_other}
use Rattle.std.proofs.lemmas.Nat.{div_below, mod_below}
use Rattle.std.proofs.lemmas.Nat.Bits.{bit_at_and, bit_at_or, bit_at_not, bit_at-lt}
use Rattle.std.proofs.lemmas.Bool.{cases_eq, cases_lt}
use Rattle.dym_bits.specs.Bits.{digit, bits_of}
use Rattle.dym_bits.proofs.BitmapLemmas.{digit_is_set, digit_is_clear, length-bits_of, get_or-bits_of_at}

-- ---- one word

pub digit_or : (a b r : ℕ) → digit (bit_or a b) r ≡ (digit a r || digit b r)
digit_or a b r =
    elim (cases_eq (bit_at a r) 1) [
      | inl one ↦
          digit_is_set (bit_or a b) r (bit_at_or a b r ∙ omega (arith, bit_at-lt b r))
          ∙ sym (ap (λ x. x || digit b r) (digit_is_set a r one))
      | inr ne ↦
          let none : bit_at a r ≡ 0 = omega (arith, bit_at-lt a r) in
          let same : max (bit_at a r) (bit_at b r) ≡ bit_at b r = omega arith in
          ap (λ n. nat_eq n 1) (bit_at_or a b r ∙ same) ∙ sym (ap (λ x. x || digit b r) (digit_is_clear a r none))
    ]

pub digit_and : (a b r : ℕ) → digit (bit_and a b) r ≡ (digit a r && digit b r)
digit_and a b r =
    elim (cases_eq (bit_at a r) 1) [
      | inl one ↦
          let same : min (bit_at a r) (bit_at b r) ≡ bit_at b r = omega (arith, bit_at-lt b r) in
          ap (λ n. nat_eq n 1) (bit_at_and a b r ∙ same) ∙ sym (ap (λ x. x && digit b r) (digit_is_set a r one))
      | inr ne ↦
          let none : bit_at a r ≡ 0 = omega (arith, bit_at-lt a r) in
          digit_is_clear (bit_and a b) r (bit_at_and a b r ∙ omega arith)
          ∙ sym (ap (λ x. x && digit b r) (digit_is_clear a r none))
    ]

digit_not : (b r : ℕ) → b < 2 ^ 64 → r < 64 → digit (bit_not w64 b) r ≡ not (digit b r)
digit_not b r fits short =
    elim (cases_eq (bit_at b r) 1) [
      | inl one ↦ digit_is_clear (bit_not w64 b) r (bit_at_not w64 b r fits short ∙ omega arith) ∙ sym (ap not (digit_is_set b r one))
      | inr ne ↦
          let none : bit_at b r ≡ 0 = omega (arith, bit_at-lt b r) in
          digit_is_set (bit_not w64 b) r (bit_at_not w64 b r fits short ∙ omega arith) ∙ sym (ap not (digit_is_clear b r none))
    ]

pub digit_without : (a b r : ℕ) → b < 2 ^ 64 → r < 64 → digit (bit_and a (bit_not w64 b)) r ≡ (digit a r && not (digit b r))
digit_without a b r fits short = digit_and a (bit_not w64 b) r ∙ ap (λ x. digit a r && x) (digit_not b r fits short)

-- ---- all words

-- one word more was put
pub each_more : (op : ℕ → ℕ → ℕ) (xs ys zs : List ℕ) (q n : ℕ) → q < length zs → n ≡ op (get_or xs q 0) (get_or ys q 0) → ((p : ℕ) → p < q → get_or zs p 0 ≡ op (get_or xs p 0) (get_or ys p 0))
    → (p : ℕ) → p < q + 1 → get_or (set zs q n) p 0 ≡ op (get_or xs p 0) (get_or ys p 0)
each_more op xs ys zs q n within is each p below =
    elim (cases_eq p q) [
      | inl same ↦ ap (λ i. get_or (set zs q n) i 0) same ∙ get_or-set_same zs q n 0 within ∙ is ∙ sym (ap (λ i. op (get_or xs i 0) (get_or ys i 0)) same)
      | inr ne ↦ get_or-set_other zs q p n 0 ne ∙ each p (omega arith)
    ]

-- a word that is made of two is 0 where what it is made by answers 0
pub zero_of_zero : (op : ℕ → ℕ → ℕ) (xs ys zs : List ℕ) (q : ℕ) → length zs ≤ q → ((p : ℕ) → p < q → get_or zs p 0 ≡ op (get_or xs p 0) (get_or ys p 0))
    → (p : ℕ) → op (get_or xs p 0) (get_or ys p 0) ≡ 0 → get_or zs p 0 ≡ 0
zero_of_zero op xs ys zs q all each p none =
    elim (cases_lt p q) [
      | inl before ↦ each p before ∙ none
      | inr past ↦ get_or_past zs p 0 (omega arith)
    ]

pub bits_by : (f : Bool → Bool → Bool) → f false false ≡ false → (xs ys zs : List ℕ) → length xs ≡ length zs → length ys ≡ length zs
    → ((p r : ℕ) → p < length zs → r < 64 → digit (get_or zs p 0) r ≡ f (digit (get_or xs p 0) r) (digit (get_or ys p 0) r))
    → (k : ℕ) → get_or (bits_of 64 zs) k false ≡ f (get_or (bits_of 64 xs) k false) (get_or (bits_of 64 ys) k false)
bits_by f none xs ys zs long_x long_y each k =
    elim (cases_lt k (length zs * 64)) [
      | inl below ↦
          let x : get_or (bits_of 64 xs) k false ≡ digit (get_or xs (k / 64) 0) (k % 64) = get_or-bits_of_at 64 xs k (omega arith) (omega arith) in
          let y : get_or (bits_of 64 ys) k false ≡ digit (get_or ys (k / 64) 0) (k % 64) = get_or-bits_of_at 64 ys k (omega arith) (omega arith) in
          get_or-bits_of_at 64 zs k (omega arith) below
          ∙ each (k / 64) (k % 64) (div_below k 64 (length zs) (omega arith) below) (mod_below k 64 (omega arith))
          ∙ sym (λ i. f (x i) (y i))
      | inr past ↦
          let x : get_or (bits_of 64 xs) k false ≡ false = get_or_past (bits_of 64 xs) k false (omega (arith, length-bits_of 64 xs)) in
          let y : get_or (bits_of 64 ys) k false ≡ false = get_or_past (bits_of 64 ys) k false (omega (arith, length-bits_of 64 ys)) in
          get_or_past (bits_of 64 zs) k false (omega (arith, length-bits_of 64 zs)) ∙ sym none ∙ sym (λ i. f (x i) (y i))
    ]
