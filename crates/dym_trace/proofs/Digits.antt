-- Decimal texts.
use Rattle.std.proofs.Common.{◌≡◌, ℕ, zero, suc, ◌+◌, ◌-◌, ◌*◌, ◌^◌, ◌<◌, ◌≤◌, List, length, get_or, take, sym, ap, arith}
use Rattle.std.specs.Fmt.{decimal}
use Rattle.std.specs.Char.{digit_value}
use Rattle.std.specs.Str.Parse.{AllDigits, digits_value}
use Rattle.std.proofs.lemmas.Bool.Decides.{nat_tests}
use Rattle.std.proofs.lemmas.Fmt.{decimal_is_IsNumeral, first_decimal, decimal-digits_value, decimal_digit}
use Rattle.std.proofs.lemmas.Int.Digits.{digits_value_more, digits_more}
use Rattle.std.proofs.lemmas.Str.Parse.{digit_at, digits_value-take-le, numerals_by_value, tells_digits}

-- a digit stands at each place of a decimal text
pub decimal_byte : (n i : ℕ) → n < 2 ^ 64 → i < length (decimal n) → (48 ≤ get_or (decimal n) i 0) × (get_or (decimal n) i 0 ≤ 57)
decimal_byte n i small within = let d = digit_at (decimal n) i (decimal_is_IsNumeral n small).0.1 within in grind (arith, d)

-- no decimal text begins with 0 but that of 0
pub no_leading_zero : (n : ℕ) → n < 2 ^ 64 → get_or (decimal n) 0 0 ≡ 48 → 1 < length (decimal n) → ⊥
no_leading_zero zero small first long = let one : length (decimal zero) ≡ 1 = ap (λ (x : List ℕ). length x) (decimal_digit zero (omega arith)) in omega arith
no_leading_zero (suc n) small first long = let above = first_decimal (suc n) (omega arith) small in omega arith

-- the front of a decimal text has at most the number's value
pub front_value : (n i : ℕ) → n < 2 ^ 64 → digits_value 10 (take i (decimal n)) ≤ n
front_value n i small =
    let le = digits_value-take-le 10 (decimal n) i (omega arith) in
    let is = (decimal_is_IsNumeral n small).1 in
    omega arith

-- digits without a leading zero are the decimal text of their value
pub text_of_value : (ds : List ℕ) → AllDigits 10 ds → 0 < length ds → (get_or ds 0 0 ≡ 48 → length ds ≡ 1) → digits_value 10 ds < 2 ^ 64 → ds ≡ decimal (digits_value 10 ds)
text_of_value ds digits some lead small = sym (decimal-digits_value (numerals_by_value (AllDigits 10) tells_digits) ds digits some lead small)

digit_is : (c : ℕ) → 48 ≤ c → c ≤ 57 → digit_value c ≡ c - 48
digit_is c low high = grind (arith, nat_tests)

-- one more digit of a text
pub one_more : (word : List ℕ) (i number longer : ℕ) → i < length word → AllDigits 10 (take i word) → number ≡ digits_value 10 (take i word) →
    48 ≤ get_or word i 0 → get_or word i 0 ≤ 57 → longer ≡ number * 10 + (get_or word i 0 - 48) →
    AllDigits 10 (take (i + 1) word) × (longer ≡ digits_value 10 (take (i + 1) word))
one_more word i number longer within digits value low high is =
    let digit = digit_is (get_or word i 0) low high in
    (digits_more 10 word i within digits (omega arith), rw (digits_value_more 10 word i within, ← value, digit) is)

-- a text whose front is too large is no number's
pub too_large : (word : List ℕ) (i number n : ℕ) → i < length word → number ≡ digits_value 10 (take i word) →
    (48 ≤ get_or word i 0 → get_or word i 0 ≤ 57 → 2 ^ 64 ≤ number * 10 + (get_or word i 0 - 48)) → n < 2 ^ 64 → word ≡ decimal n → ⊥
too_large word i number n within value large small is =
    let same : length word ≡ length (decimal n) = ap (λ (x : List ℕ). length x) is in
    let byte : (48 ≤ get_or word i 0) × (get_or word i 0 ≤ 57) = rw is (decimal_byte n i small (omega arith)) in
    let digit = digit_is (get_or word i 0) byte.0 byte.1 in
    let more = digits_value_more 10 word i within in
    let front : digits_value 10 (take (i + 1) word) ≤ n = rw is (front_value n (i + 1) small) in
    let over = large byte.0 byte.1 in
    omega (arith, over, front, rw (← value, digit) at more)
