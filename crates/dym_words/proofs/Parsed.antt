-- What `parse` reads from digits.
use Rattle.std.proofs.Common.{◌≡◌, ℕ, ◌<◌, ◌≤◌, ◌^◌, true, List, length, Result, Ok, Err, arith, rules}
use Rattle.std.specs.Char.{is_ascii_digit}
use Rattle.std.specs.List.{list_all}
use Rattle.std.specs.Result.{result_ok, OkIff}
use Rattle.std.specs.Str.Parse.{digits_value, ParsesUnsigned}
use Rattle.std.proofs.lemmas.Grind.{common_steps}
use Rattle.std.proofs.lemmas.Str.Parse.{IsNumeralModel, numerals_by_value, parse_digits}
use Rattle.dym_words.specs.Numbers.{number_of}

digits_model : IsNumeralModel (λ ds. list_all is_ascii_digit ds ≡ true) (digits_value 10)
digits_model = numerals_by_value _ (search rules)

number_from : {E : Type 0} (bs : List ℕ) (r : Result ℕ E) → list_all is_ascii_digit bs ≡ true → length bs ≤ 20
    → OkIff r ((0 < length bs) × (digits_value 10 bs < 2 ^ 64)) (digits_value 10 bs) → result_ok r ≡ number_of bs
number_from bs (Ok n) digits short h = grind (arith, common_steps)
number_from bs (Err e) digits short h = grind (arith, common_steps)

-- at most 20 digits are parsed as their number
pub parsed : {E : Type 0} (bs : List ℕ) (r : Result ℕ E) → list_all is_ascii_digit bs ≡ true → length bs ≤ 20 → ParsesUnsigned 64 10 bs r
    → result_ok r ≡ number_of bs
parsed bs r digits short h = number_from bs r digits short (parse_digits digits_model 64 bs r h digits)
