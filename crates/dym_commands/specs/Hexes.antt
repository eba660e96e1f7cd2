-- Words that write bytes.
use Rattle.std.specs.Prelude.{◌≡◌, ◌≤◌, ◌%◌, ℕ, true, nat_lt, if◌then◌else◌, List, [], ◌++◌, length, codes, Option, None, Some}
use Rattle.std.specs.List.{list_all}
use Rattle.std.specs.Str.{bytes_eq}
use Rattle.std.specs.Result.{result_ok, result_unwrap_or}
use Rattle.hex.specs.Hex.{decode_of, is_hex_digit}

-- the bytes that a word writes: a dash for none, or an even number of at least two hexadecimal digits
unfoldable pub hex_of : List ℕ → Option (List ℕ)
hex_of word =
    if bytes_eq word (codes "-") then Some []
    else if nat_lt (length word) 2 then None
    else result_ok (decode_of word)

-- an even number of hexadecimal digits, maybe none
pub record AreDigits (digits : List ℕ) : Type 0 where
  pub even : length digits % 2 ≡ 0
  pub good : list_all is_hex_digit digits ≡ true

-- the bytes that such digits write
abbrev pub decoded : List ℕ → List ℕ
decoded digits = result_unwrap_or (decode_of digits) []

-- the text is digits alone that are a word for these bytes, and then the rest
pub record IsAtFront (text bytes rest : List ℕ) : Type 0 where
  pub word : List ℕ
  pub is : text ≡ word ++ rest
  pub some : 2 ≤ length word
  pub digits : list_all is_hex_digit word ≡ true
  pub writes : hex_of word ≡ Some bytes
