-- Numbers as words.
use Rattle.std.specs.Prelude.{ℕ, ◌^◌, Bool, ◌&&◌, nat_le, nat_lt, if◌then◌else◌, List, length, Option, None, Some, option_and_then}
use Rattle.std.specs.Char.{is_ascii_digit}
use Rattle.std.specs.List.{list_all}
use Rattle.std.specs.Str.Parse.{digits_value}

-- 1 to 20 digits with a value below 2 ^ 64. Zeros may lead
abbrev pub is_number : List ℕ → Bool
is_number w = nat_le 1 (length w) && nat_le (length w) 20 && list_all is_ascii_digit w && nat_lt (digits_value 10 w) (2 ^ 64)

abbrev pub number_of : List ℕ → Option ℕ
number_of w = if is_number w then Some (digits_value 10 w) else None

-- the number, where it is from low to high
abbrev pub if_within : ℕ → ℕ → ℕ → Option ℕ
if_within low high n = if nat_le low n && nat_le n high then Some n else None

abbrev pub number_within : ℕ → ℕ → List ℕ → Option ℕ
number_within low high w = option_and_then (if_within low high) (number_of w)
