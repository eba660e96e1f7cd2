-- Which bytes are hexadecimal digits, and which words write bytes.
use Rattle.std.proofs.Common.{◌≡◌, ℕ, ◌+◌, ◌*◌, ◌%◌, ◌<◌, ◌≤◌, ◌==◌, ◌&&◌, Some, None, arith, true, false, List, [], ◌∷◌, length, get_or, Result, Ok, Err, codes, nat_lt, refl, sym, ◌∙◌}
use Rattle.std.specs.List.{list_all}
use Rattle.std.specs.Str.{bytes_eq}
use Rattle.std.specs.Result.{result_ok}
use Rattle.std.proofs.lemmas.List.Sums.{AllPass-from_list_all, list_all-from_AllPass}
use Rattle.std.proofs.lemmas.Bool.Decides.{nat_tests}
use Rattle.hex.specs.Hex.{decode_of, decode_pairs, is_hex_digit, hex_digit_value, pair_value}
use Rattle.hex.specs.declared.error.FromHexError.{FromHexError}
use Rattle.hex.proofs.HexLemmas.{decode_of-ok, decode_of-digits}
use Rattle.dym_commands.specs.Hexes.{hex_of, decoded, AreDigits}

-- the byte of two digits that have these values
pub pair_is : (high low i h l : ℕ) → hex_digit_value high ≡ Some h → hex_digit_value low ≡ Some l → pair_value high low i ≡ Ok (h * 16 + l)
pair_is high low i h l first second = rw (first, second) refl

-- each of some digits is one
pub digit_at : (digits : List ℕ) (k : ℕ) → list_all is_hex_digit digits ≡ true → k < length digits → is_hex_digit (get_or digits k 0) ≡ true
digit_at digits k good inside = AllPass-from_list_all is_hex_digit digits good k 0 inside

-- digits in pairs decode
decodes : (digits : List ℕ) → AreDigits digits → decode_of digits ≡ Ok (decoded digits)
decodes digits are =
    let made = decode_of-digits digits are.even (AllPass-from_list_all is_hex_digit digits are.good) in
    rw made.1 refl

-- a word of two digits or more, in pairs
pub hex_digits : (word : List ℕ) → bytes_eq word (codes "-") ≡ false → 2 ≤ length word → AreDigits word → hex_of word ≡ Some (decoded word)
unfolding hex_of
hex_digits word dash long are =
    let short : nat_lt (length word) 2 ≡ false = grind (arith, nat_tests) in
    rw (dash, short, decodes word are) refl

-- a word that is too short
pub hex_short : (word : List ℕ) → bytes_eq word (codes "-") ≡ false → length word < 2 → None ≡ hex_of word
unfolding hex_of
hex_short word dash few =
    let short : nat_lt (length word) 2 ≡ true = grind (arith, nat_tests) in
    rw (dash, short) refl

no_bytes : (word : List ℕ) (made : Result (List ℕ) FromHexError) → decode_of word ≡ made → (AreDigits word → ⊥) → None ≡ result_ok made
no_bytes word (Ok bytes) same other =
    let ok = decode_of-ok word bytes same in
    absurd (other (record { even = ok.0; good = list_all-from_AllPass is_hex_digit word ok.1 }))
no_bytes word (Err e) same other = refl

-- a word of other bytes
pub hex_other : (word : List ℕ) → bytes_eq word (codes "-") ≡ false → (AreDigits word → ⊥) → None ≡ hex_of word
unfolding hex_of
hex_other word dash other =
    elim (nat_lt (length word) 2) as (λ b. nat_lt (length word) 2 ≡ b → None ≡ hex_of word) [
      | true ↦ λ short. rw (dash, short) refl
      | false ↦ λ long. rw (dash, long) (no_bytes word (decode_of word) refl other)
    ] refl

-- the dash
pub hex_dash : (word digits : List ℕ) → bytes_eq word (codes "-") ≡ true → digits ≡ [] → Some (decoded digits) ≡ hex_of word
unfolding hex_of decode_pairs
hex_dash word digits dash none = rw (dash, none) refl

-- why a word isn't digits in pairs
pub odd_length : (word : List ℕ) → (length word % 2 ≡ 0 → ⊥) → AreDigits word → ⊥
odd_length word odd are = odd are.even

pub other_byte : (word : List ℕ) → list_all is_hex_digit word ≡ false → AreDigits word → ⊥
other_byte word other are = absurd (cc (sym other ∙ are.good))

-- a word that begins with a digit is no dash
pub no_dash : (word : List ℕ) → 2 ≤ length word → bytes_eq word (codes "-") ≡ false
no_dash [] long = refl
no_dash (b ∷ []) long = absurd (omega (arith, long))
no_dash (b ∷ c ∷ word) long = elim (b == 45) as (λ x. (x && false) ≡ false) [ true ↦ refl | false ↦ refl ]
