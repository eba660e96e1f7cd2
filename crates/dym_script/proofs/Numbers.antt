-- The digits of a number, read one after another.
use Rattle.std.proofs.Common.{◌≡◌, ℕ, ◌+◌, ◌*◌, ◌^◌, ◌<◌, ◌≤◌, true, false, ◌&&◌, List, length, take, get_or, nat_le, Some, None, if◌then◌else◌, refl, ◌∙◌, arith}
use Rattle.std.specs.List.{list_all}
use Rattle.std.specs.Char.{is_ascii_digit, digit_value}
use Rattle.std.specs.Str.Parse.{digits_value}
use Rattle.std.proofs.lemmas.Int.Digits.{digits_value_more}
use Rattle.std.proofs.lemmas.Str.Parse.{digits_value-take-le}
use Rattle.std.proofs.lemmas.List.Folds.{list_all_more}
use Rattle.std.proofs.lemmas.Bool.Decides.{nat_tests}
use Rattle.std.proofs.lemmas.Str.{digit_value_digit}
use Rattle.std.specs.Int.{IsInRange}
use Rattle.dym_script.specs.Words.{is_digits, number_to}

-- a digit is one of '0' to '9'
pub digit_range : (c : ℕ) → is_ascii_digit c ≡ true → IsInRange 48 57 c
digit_range c digit = grind (arith, nat_tests)

-- the digit's value
pub digit_is : (c : ℕ) → is_ascii_digit c ≡ true → digit_value c + 48 ≡ c
digit_is c digit = digit_value_digit c (digit_range c digit)

pub digit_small : (c : ℕ) → is_ascii_digit c ≡ true → digit_value c < 10
digit_small c digit = let range = digit_range c digit in omega (arith, digit_is c digit)

-- one digit more
pub digits_more : (word : List ℕ) (i value digit : ℕ) → i < length word → list_all is_ascii_digit (take i word) ≡ true
    → value ≡ digits_value 10 (take i word) → is_ascii_digit (get_or word i 0) ≡ true → digit + 48 ≡ get_or word i 0
    → (value * 10 + digit ≡ digits_value 10 (take (i + 1) word)) × (list_all is_ascii_digit (take (i + 1) word) ≡ true)
digits_more word i value digit inside digits is passes same = (
  omega (arith, digits_value_more 10 word i inside, digit_is (get_or word i 0) passes),
  list_all_more is_ascii_digit word i 0 inside ∙ rw (digits, passes) refl,
)

-- a number is too great where its first digits are
pub too_great : (most value digit i : ℕ) (word : List ℕ) → most < 2 ^ 64 → i < length word → list_all is_ascii_digit (take i word) ≡ true
    → value ≡ digits_value 10 (take i word) → is_ascii_digit (get_or word i 0) ≡ true → digit + 48 ≡ get_or word i 0
    → 2 ^ 64 ≤ value * 10 + digit → None ≡ number_to most word
unfolding number_to
too_great most value digit i word small inside digits is passes same great =
    let more = (digits_more word i value digit inside digits is passes same).0 in
    let least = digits_value-take-le 10 word (i + 1) (omega arith) in
    let over : nat_le (digits_value 10 word) most ≡ false = grind (arith, nat_tests) in
    rw over (elim (is_digits word) as (λ b. None ≡ (if b && false then Some (digits_value 10 word) else None)) [ true ↦ refl | false ↦ refl ])
