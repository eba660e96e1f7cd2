-- The bytes of a word, the lowest first, tested all at once, and the number that they write.
use Rattle.std.proofs.Common.{◌≡◌, ℕ, zero, suc, ◌+◌, ◌-◌, ◌*◌, ◌/◌, ◌%◌, ◌^◌, ◌<◌, ◌≤◌, true, List, [], ◌∷◌, ◌++◌, length, get_or, take, drop, replicate, nat_le, nat_eq, ◌&&◌, length-take, length-append, take-append-drop, refl, sym, ap, subst, ◌∙◌, arith}
use Rattle.std.specs.Int.{w64, to_le_bytes, from_le_bytes}
use Rattle.std.specs.Int.Bits.{bit_and}
use Rattle.std.specs.List.{list_all}
use Rattle.std.specs.Char.{is_ascii_digit, digit_value}
use Rattle.std.specs.Str.Parse.{digits_value}
use Rattle.std.proofs.lemmas.Nat.{and_block, le_bytes_8, from_le_bytes-to_le_bytes_8}
use Rattle.std.proofs.lemmas.List.{length-replicate}
use Rattle.std.proofs.lemmas.Nat.Bits.{and_pow}
use Rattle.std.proofs.lemmas.Bool.Decides.{nat_tests}
use Rattle.dym_script.proofs.Numbers.{digit_is, digit_small}
use Rattle.dym_script.specs.Quick.{Counts}
use Rattle.dym_script.specs.Fronts.{IsFront}
use Rattle.dym_script.proofs.WordCuts.{take_rest}
use Rattle.dym_script.proofs.WordCuts.{both_true}

-- the number whose bytes these are, the lowest first
abbrev word_of : List ℕ → ℕ
word_of [] = 0
word_of (b ∷ bs) = word_of bs * 256 + b

-- the number of as many bytes that have one value
abbrev many : ℕ → List ℕ → ℕ
many k [] = 0
many k (b ∷ bs) = many k bs * 256 + k

-- each fits in a byte
abbrev small : List ℕ → Type 0
small [] = Unit
small (b ∷ bs) = (b < 256) × small bs

-- a byte's highest bit is tested by itself
step : (a m b : ℕ) → b < 256 → bit_and (a * 256 + b) (m * 256 + 128) ≡ bit_and a m * 256 + bit_and b 128
step a m b fits = and_block 8 a m b 128 fits (omega arith)

high_bit : (b : ℕ) → bit_and b 128 ≡ b / 128 % 2 * 128
high_bit b = and_pow b 7

-- where no byte has its highest bit, each is at most 127
below : (bs : List ℕ) → small bs → bit_and (word_of bs) (many 128 bs) ≡ 0 → word_of bs ≤ many 127 bs
below [] fits none = omega arith
below (b ∷ bs) fits none =
    let both = step (word_of bs) (many 128 bs) b fits.0 in
    let tail : bit_and (word_of bs) (many 128 bs) ≡ 0 = omega (arith, none, both) in
    omega (arith, none, both, high_bit b, fits.0, below bs fits.1 tail)

digit_from : (b : ℕ) → 48 ≤ b → b ≤ 57 → is_ascii_digit b ≡ true
digit_from b low high = grind (arith, nat_tests)

-- each is a digit's value
abbrev low : List ℕ → Type 0
low [] = Unit
low (b ∷ bs) = (b ≤ 9) × low bs

-- a byte is a digit's value where it is below 128, and 118 more is too
values_low : (bs : List ℕ) → small bs → bit_and (word_of bs) (many 128 bs) ≡ 0 → bit_and (word_of bs + many 118 bs) (many 128 bs) ≡ 0 → low bs
values_low [] fits none most = tt
values_low (b ∷ bs) fits none most =
    let both = step (word_of bs) (many 128 bs) b fits.0 in
    let none_more : bit_and (word_of bs) (many 128 bs) ≡ 0 = omega (arith, none, both) in
    let seven : b < 128 = omega (arith, none, both, high_bit b, fits.0) in
    let at_most : word_of bs * 256 + b + (many 118 bs * 256 + 118) ≡ (word_of bs + many 118 bs) * 256 + (b + 118) = omega arith in
    let more = ap (λ n. bit_and n (many 128 bs * 256 + 128)) at_most ∙ step (word_of bs + many 118 bs) (many 128 bs) (b + 118) (omega (arith, seven)) in
    let most_more : bit_and (word_of bs + many 118 bs) (many 128 bs) ≡ 0 = omega (arith, most, more) in
    let to : b ≤ 9 = omega (arith, most, more, high_bit (b + 118), seven) in
    (to, values_low bs fits.1 none_more most_more)

small_8 : (n : ℕ) → small (to_le_bytes w64 n)
small_8 n = (omega arith, (omega arith, (omega arith, (omega arith, (omega arith, (omega arith, (omega arith, (omega arith, tt))))))))

horner : (a b c d e f g h : ℕ) → word_of
    (a ∷ b ∷ c ∷ d ∷ e ∷ f ∷ g ∷ h ∷ []) ≡ a + b * 256 + c * 65536 + d * 16777216 + e * 4294967296 + f * 1099511627776 + g * 281474976710656 + h * 72057594037927936
horner a b c d e f g h = omega arith

-- a word is the number of its bytes
word_is : (n : ℕ) → n < 2 ^ 64 → word_of (to_le_bytes w64 n) ≡ n
word_is n fits = horner (n % 256) (n / 256 % 256) (n / 65536 % 256) (n / 16777216 % 256) (n / 4294967296 % 256) (n / 1099511627776 % 256)
    (n / 281474976710656 % 256) (n / 72057594037927936 % 256) ∙ from_le_bytes-to_le_bytes_8 n fits

-- a word with no byte's highest bit has room for more
pub word_room : (n : ℕ) → n < 2 ^ 64 → bit_and n 0x8080808080808080 ≡ 0 → n ≤ 0x7f7f7f7f7f7f7f7f
word_room n fits none =
    let is = word_is n fits in
    subst (λ m. m ≤ 0x7f7f7f7f7f7f7f7f) is (below (to_le_bytes w64 n) (small_8 n) (ap (λ m. bit_and m 0x8080808080808080) is ∙ none))

fits_at : (bs : List ℕ) → small bs → (i : ℕ) → get_or bs i 0 < 256
fits_at [] fits i = omega arith
fits_at (b ∷ bs) fits zero = fits.0
fits_at (b ∷ bs) fits (suc i) = fits_at bs fits.1 i

-- the bytes of a word are digits' values
record Values (n : ℕ) : Type 0 where
  fits : n < 2 ^ 64
  each : low (to_le_bytes w64 n)

values_of : (n : ℕ) → n < 2 ^ 64 → bit_and n 0x8080808080808080 ≡ 0 → bit_and ((n + 0x7676767676767676) % 18446744073709551616) 0x8080808080808080 ≡ 0 → Values n
values_of n fits none most =
    let is = word_is n fits in
    let room : (n + 0x7676767676767676) % 18446744073709551616 ≡ n + 0x7676767676767676 = omega (arith, word_room n fits none) in
    record {
      fits = fits;
      each = values_low (to_le_bytes w64 n) (small_8 n)
          (ap (λ m. bit_and m 0x8080808080808080) is ∙ none)
          (ap (λ m. bit_and (m + 0x7676767676767676) 0x8080808080808080) is ∙ ap (λ m. bit_and m 0x8080808080808080) (sym room) ∙ most);
    }

-- zeros added to values make digits
digits_of : (a b c d e f g h n more : ℕ) → low (a ∷ b ∷ c ∷ d ∷ e ∷ f ∷ g ∷ h ∷ [])
    → a + b * 256 + c * 65536 + d * 16777216 + e * 4294967296 + f * 1099511627776 + g * 281474976710656 + h * 72057594037927936 ≡ n
    → more ≡ (n + 0x3030303030303030) % 18446744073709551616
    → (list_all is_ascii_digit (to_le_bytes w64 more) ≡ true) × (n < 2 ^ 60)
digits_of a b c d e f g h n more (a', (b', (c', (d', (e', (f', (g', (h', _)))))))) is from =
    let list : List ℕ = (a + 48) ∷ (b + 48) ∷ (c + 48) ∷ (d + 48) ∷ (e + 48) ∷ (f + 48) ∷ (g + 48) ∷ (h + 48) ∷ [] in
    let fits : small list = (
      omega (arith, a'),
      (
        omega (arith, b'),
        (
          omega (arith, c'),
          (omega (arith, d'), (omega (arith, e'), (omega (arith, f'), (omega (arith, g'), (omega (arith, h'), tt))))),
        ),
      ),
    ) in
    let bytes : to_le_bytes w64 more ≡ list = le_bytes_8 list more refl (fits_at list fits) (omega (arith, is, from, a', b', c', d', e', f', g', h')) in
    let digit : (b : ℕ) → b ≤ 9 → is_ascii_digit (b + 48) ≡ true = λ b few. digit_from (b + 48) (omega arith) (omega (arith, few)) in (
      ap (list_all is_ascii_digit) bytes ∙ rw (digit a a', digit b b', digit c c', digit d d', digit e e', digit f f', digit g g', digit h h') refl,
      omega (arith, is, a', b', c', d', e', f', g', h'),
    )

-- a word's bytes are digits' values where its tests say so
pub values_digits : (n : ℕ) → n < 2 ^ 64
    → (nat_eq (bit_and n 0x8080808080808080) 0 && nat_eq (bit_and ((n + 0x7676767676767676) % 18446744073709551616) 0x8080808080808080) 0) ≡ true
    → (list_all is_ascii_digit (to_le_bytes w64 ((n + 0x3030303030303030) % 18446744073709551616)) ≡ true) × (n < 2 ^ 60)
values_digits n fits both =
    let two = both_true (nat_eq (bit_and n 0x8080808080808080) 0) (nat_eq (bit_and ((n + 0x7676767676767676) % 18446744073709551616) 0x8080808080808080) 0) both in
    let none : bit_and n 0x8080808080808080 ≡ 0 = grind (arith, nat_tests, two.0) in
    let most : bit_and ((n + 0x7676767676767676) % 18446744073709551616) 0x8080808080808080 ≡ 0 = grind (arith, nat_tests, two.1) in
    let values = values_of n fits none most in
    digits_of (n % 256) (n / 256 % 256) (n / 65536 % 256) (n / 16777216 % 256) (n / 4294967296 % 256) (n / 1099511627776 % 256)
    (n / 281474976710656 % 256) (n / 72057594037927936 % 256) n _ values.each (from_le_bytes-to_le_bytes_8 n fits) refl

small_of : (bs : List ℕ) → ((i : ℕ) → get_or bs i 0 < 256) → small bs
small_of [] each = tt
small_of (b ∷ bs) each = (each zero, small_of bs (λ i. each (suc i)))

small_take : (n : ℕ) (bs : List ℕ) → small bs → small (take n bs)
small_take zero bs fits = tt
small_take (suc n) [] fits = tt
small_take (suc n) (b ∷ bs) fits = (fits.0, small_take n bs fits.1)

small_padded : (k byte : ℕ) (bs : List ℕ) → byte < 256 → small bs → small (replicate k byte ++ bs)
small_padded zero byte bs low fits = fits
small_padded (suc k) byte bs low fits = (low, small_padded k byte bs low fits)

-- ten times each digit and the next one: no sum leaves its byte
pairs_bytes : (a b c d e f g h values pairs : ℕ) → a < 10 → b < 10 → c < 10 → d < 10 → e < 10 → f < 10 → g < 10 → h < 10
    → values ≡ a + b * 256 + c * 65536 + d * 16777216 + e * 4294967296 + f * 1099511627776 + g * 281474976710656 + h * 72057594037927936
    → pairs ≡ values * 10 + values / 256
    → to_le_bytes w64 pairs ≡ (a * 10 + b) ∷ (b * 10 + c) ∷ (c * 10 + d) ∷ (d * 10 + e) ∷ (e * 10 + f) ∷ (f * 10 + g) ∷ (g * 10 + h) ∷ (h * 10) ∷ []
pairs_bytes a b c d e f g h values pairs a' b' c' d' e' f' g' h' is from =
    let back : values / 256 ≡ b + c * 256 + d * 65536 + e * 16777216 + f * 4294967296 + g * 1099511627776 + h * 281474976710656 = omega (arith, is, a') in
    let list : List ℕ = (a * 10 + b) ∷ (b * 10 + c) ∷ (c * 10 + d) ∷ (d * 10 + e) ∷ (e * 10 + f) ∷ (f * 10 + g) ∷ (g * 10 + h) ∷ (h * 10) ∷ [] in
    let fits : small list = (
      omega (arith, a', b'),
      (
        omega (arith, b', c'),
        (
          omega (arith, c', d'),
          (omega (arith, d', e'), (omega (arith, e', f'), (omega (arith, f', g'), (omega (arith, g', h'), (omega (arith, h'), tt))))),
        ),
      ),
    ) in
    le_bytes_8 list pairs refl (fits_at list fits)
    (omega (arith, is, from, back))

-- what is found of the digits of one byte
record Digit (byte : ℕ) : Type 0 where
  is : digit_value byte + 48 ≡ byte
  few : digit_value byte < 10

digit_of : (byte : ℕ) → is_ascii_digit byte ≡ true → Digit byte
digit_of byte digit = record { is = digit_is byte digit; few = digit_small byte digit }

-- the first byte is a digit, and the others are
digit_first : (byte : ℕ) (bytes : List ℕ) → list_all is_ascii_digit (byte ∷ bytes) ≡ true → Digit byte × (list_all is_ascii_digit bytes ≡ true)
digit_first byte bytes all =
    let two = both_true (is_ascii_digit byte) (list_all is_ascii_digit bytes) all in
    (digit_of byte two.0, two.1)

-- the number of eight digits, from the pairs of them
value_of_eight : (a b c d e f g h n ab cd ef gh : ℕ) (bytes : List ℕ)
    → list_all is_ascii_digit (a ∷ b ∷ c ∷ d ∷ e ∷ f ∷ g ∷ h ∷ []) ≡ true
    → a + b * 256 + c * 65536 + d * 16777216 + e * 4294967296 + f * 1099511627776 + g * 281474976710656 + h * 72057594037927936 ≡ n
    → bytes ≡ to_le_bytes w64 ((n - 0x3030303030303030) * 10 + (n - 0x3030303030303030) / 256)
    → ab ≡ get_or bytes 0 0 → cd ≡ get_or bytes 2 0 → ef ≡ get_or bytes 4 0 → gh ≡ get_or bytes 6 0
    → (ab * 100 + cd) * 10000 + (ef * 100 + gh) ≡ digits_value 10 (a ∷ b ∷ c ∷ d ∷ e ∷ f ∷ g ∷ h ∷ [])
value_of_eight a b c d e f g h n ab cd ef gh bytes all is from at_ab at_cd at_ef at_gh =
    let one = digit_first a (b ∷ c ∷ d ∷ e ∷ f ∷ g ∷ h ∷ []) all in
    let two = digit_first b (c ∷ d ∷ e ∷ f ∷ g ∷ h ∷ []) one.1 in
    let three = digit_first c (d ∷ e ∷ f ∷ g ∷ h ∷ []) two.1 in
    let four = digit_first d (e ∷ f ∷ g ∷ h ∷ []) three.1 in
    let five = digit_first e (f ∷ g ∷ h ∷ []) four.1 in
    let six = digit_first f (g ∷ h ∷ []) five.1 in
    let seven = digit_first g (h ∷ []) six.1 in
    let eight = digit_first h [] seven.1 in
    let values : n - 0x3030303030303030 ≡ digit_value a + digit_value b * 256 + digit_value c * 65536 + digit_value d * 16777216 + digit_value
    e * 4294967296 + digit_value f * 1099511627776 + digit_value g * 281474976710656 + digit_value h * 72057594037927936 =
    omega (arith, is, one.0.is, two.0.is, three.0.is, four.0.is, five.0.is, six.0.is, seven.0.is, eight.0.is) in
    let listed = from ∙ pairs_bytes (digit_value a) (digit_value b) (digit_value c) (digit_value d) (digit_value e) (digit_value f) (digit_value g)
    (digit_value h) (n - 0x3030303030303030) ((n - 0x3030303030303030) * 10 + (n - 0x3030303030303030) / 256) one.0.few two.0.few three.0.few
    four.0.few five.0.few six.0.few seven.0.few eight.0.few values refl in
    let first = at_ab ∙ ap (λ l. get_or l 0 0) listed in
    let second = at_cd ∙ ap (λ l. get_or l 2 0) listed in
    let third = at_ef ∙ ap (λ l. get_or l 4 0) listed in
    let fourth = at_gh ∙ ap (λ l. get_or l 6 0) listed in
    omega (arith, first, second, third, fourth)

-- the same of a word's bytes
word_value : (n ab cd ef gh : ℕ) (bytes : List ℕ) → n < 2 ^ 64 → list_all is_ascii_digit (to_le_bytes w64 n) ≡ true
    → bytes ≡ to_le_bytes w64 ((n - 0x3030303030303030) * 10 + (n - 0x3030303030303030) / 256)
    → ab ≡ get_or bytes 0 0 → cd ≡ get_or bytes 2 0 → ef ≡ get_or bytes 4 0 → gh ≡ get_or bytes 6 0
    → (ab * 100 + cd) * 10000 + (ef * 100 + gh) ≡ digits_value 10 (to_le_bytes w64 n)
word_value n ab cd ef gh bytes fits all from at_ab at_cd at_ef at_gh =
    value_of_eight (n % 256) (n / 256 % 256) (n / 65536 % 256) (n / 16777216 % 256) (n / 4294967296 % 256) (n / 1099511627776 % 256)
    (n / 281474976710656 % 256) (n / 72057594037927936 % 256) n ab cd ef gh bytes all (from_le_bytes-to_le_bytes_8 n fits) from at_ab at_cd at_ef
    at_gh

-- the same of the digits' values
pub values_value : (n ab cd ef gh : ℕ) (bytes : List ℕ) → n < 2 ^ 60 → list_all is_ascii_digit (to_le_bytes w64 ((n + 0x3030303030303030) % 18446744073709551616)) ≡ true
    → bytes ≡ to_le_bytes w64 (n * 10 + n / 256)
    → ab ≡ get_or bytes 0 0 → cd ≡ get_or bytes 2 0 → ef ≡ get_or bytes 4 0 → gh ≡ get_or bytes 6 0
    → (ab * 100 + cd) * 10000 + (ef * 100 + gh) ≡ digits_value 10 (to_le_bytes w64 ((n + 0x3030303030303030) % 18446744073709551616))
values_value n ab cd ef gh bytes few all from at_ab at_cd at_ef at_gh =
    let m = (n + 0x3030303030303030) % 18446744073709551616 in
    let same : m - 0x3030303030303030 ≡ n = omega (arith, few) in
    word_value m ab cd ef gh bytes (omega arith) all (from ∙ ap (λ k. to_le_bytes w64 (k * 10 + k / 256)) (sym same)) at_ab at_cd at_ef at_gh

-- zeros before the digits add nothing
zeros_value : (k : ℕ) (bytes : List ℕ) → digits_value 10 (replicate k 48 ++ bytes) ≡ digits_value 10 bytes
zeros_value zero bytes = refl
zeros_value (suc k) bytes = zeros_value k bytes

zeros_digits : (k : ℕ) (bytes : List ℕ) → list_all is_ascii_digit (replicate k 48 ++ bytes) ≡ true → list_all is_ascii_digit bytes ≡ true
zeros_digits zero bytes all = all
zeros_digits (suc k) bytes all = zeros_digits k bytes all

-- digits at the front of a text, of which a word has all
pub counts_few : (text rest : List ℕ) (word count value : ℕ) → IsFront text word count → list_all is_ascii_digit (to_le_bytes w64 word) ≡ true
    → value ≡ digits_value 10 (to_le_bytes w64 word) → rest ≡ take (length text - count) (drop count text)
    → Counts text value rest
counts_few text rest word count value front all is after =
    let within : count ≤ length text = omega (arith, front.within, front.few) in
    let len : length (take count text) ≡ count = omega (arith, length-take count text) in
    let some = front.some in
    let few = front.few in
    let low : nat_le 1 (length (take count text)) ≡ true = grind (arith, nat_tests) in
    let high : nat_le (length (take count text)) 20 ≡ true = grind (arith, nat_tests) in
    let digits = zeros_digits (8 - count) (take count text) (ap (list_all is_ascii_digit) (sym front.bytes) ∙ all) in
    record {
      digits = take count text;
      is = sym (take-append-drop count text) ∙ ap (λ t. take count text ++ t) (sym (after ∙ take_rest count text));
      good = rw (low, high, digits) refl;
      value = sym (zeros_value (8 - count) (take count text)) ∙ ap (digits_value 10) (sym front.bytes) ∙ sym is;
    }

-- the bytes at the front of a text moved to the end of a word, behind zeros
front_sum : (a b c d e f g h word count : ℕ) (more : List ℕ) → a < 256 → b < 256 → c < 256 → d < 256 → e < 256 → f < 256 → g < 256 → h < 256
    → word ≡ a + b * 256 + c * 65536 + d * 16777216 + e * 4294967296 + f * 1099511627776 + g * 281474976710656 + h * 72057594037927936
    → 0 < count → count < 8
    → (word * 2 ^ (64 - 8 * count) % 18446744073709551616 + 3472328296227680304 / 2 ^ (8 * count) ≡ from_le_bytes w64
    (replicate (8 - count) 48 ++ take count (a ∷ b ∷ c ∷ d ∷ e ∷ f ∷ g ∷ h ∷ more)))
    × (word * 2 ^ (64 - 8 * count) % 18446744073709551616 ≡ from_le_bytes w64 (replicate (8 - count) 0 ++ take count (a ∷ b ∷ c ∷ d ∷ e ∷ f ∷ g ∷ h ∷ more)))
front_sum a b c d e f g h word zero more a' b' c' d' e' f' g' h' is some few = absurd (omega arith)
front_sum a b c d e f g h word (suc zero) more a' b' c' d' e' f' g' h' is some few = (omega arith, omega arith)
front_sum a b c d e f g h word (suc (suc zero)) more a' b' c' d' e' f' g' h' is some few = (omega arith, omega arith)
front_sum a b c d e f g h word (suc (suc (suc zero))) more a' b' c' d' e' f' g' h' is some few = (omega arith, omega arith)
front_sum a b c d e f g h word (suc (suc (suc (suc zero)))) more a' b' c' d' e' f' g' h' is some few = (omega arith, omega arith)
front_sum a b c d e f g h word (suc (suc (suc (suc (suc zero))))) more a' b' c' d' e' f' g' h' is some few = (omega arith, omega arith)
front_sum a b c d e f g h word (suc (suc (suc (suc (suc (suc zero)))))) more a' b' c' d' e' f' g' h' is some few = (omega arith, omega arith)
front_sum a b c d e f g h word (suc (suc (suc (suc (suc (suc (suc zero))))))) more a' b' c' d' e' f' g' h' is some few = (omega arith, omega arith)
front_sum a b c d e f g h word (suc (suc (suc (suc (suc (suc (suc (suc n)))))))) more a' b' c' d' e' f' g' h' is some few = absurd (omega arith)

-- the same of any text of eight bytes or more
front_number : (text : List ℕ) (word count : ℕ) → small text → 8 ≤ length text
    → word ≡ get_or text 0 0 + get_or text 1 0 * 256 + get_or text 2 0 * 65536 + get_or text 3 0 * 16777216 + get_or text 4 0 * 4294967296 + get_or
    text 5 0 * 1099511627776 + get_or text 6 0 * 281474976710656 + get_or text 7 0 * 72057594037927936
    → 0 < count → count < 8
    → (word * 2 ^ (64 - 8 * count) % 18446744073709551616 + 3472328296227680304 / 2 ^ (8 * count) ≡ from_le_bytes w64 (replicate (8 - count) 48 ++ take count text))
    × (word * 2 ^ (64 - 8 * count) % 18446744073709551616 ≡ from_le_bytes w64 (replicate (8 - count) 0 ++ take count text))
front_number (a ∷ b ∷ c ∷ d ∷ e ∷ f ∷ g ∷ h ∷ more) word count fits long is some few =
    front_sum a b c d e f g h word count more fits.0 fits.1.0 fits.1.1.0 fits.1.1.1.0 fits.1.1.1.1.0 fits.1.1.1.1.1.0 fits.1.1.1.1.1.1.0 fits.1.1.1.1.1.1.1.0 is some few
front_number [] word count fits long is some few = absurd (omega arith)
front_number (a ∷ []) word count fits long is some few = absurd (omega arith)
front_number (a ∷ b ∷ []) word count fits long is some few = absurd (omega arith)
front_number (a ∷ b ∷ c ∷ []) word count fits long is some few = absurd (omega arith)
front_number (a ∷ b ∷ c ∷ d ∷ []) word count fits long is some few = absurd (omega arith)
front_number (a ∷ b ∷ c ∷ d ∷ e ∷ []) word count fits long is some few = absurd (omega arith)
front_number (a ∷ b ∷ c ∷ d ∷ e ∷ f ∷ []) word count fits long is some few = absurd (omega arith)
front_number (a ∷ b ∷ c ∷ d ∷ e ∷ f ∷ g ∷ []) word count fits long is some few = absurd (omega arith)

-- zeros taken from a word before its bytes are moved, and added after it, are the zeros behind which these stand
moved_values : (word count : ℕ) → word < 2 ^ 64 → 0 < count → count < 8
    → ((word + 14974415777481871312) % 18446744073709551616 * 2 ^
    (64 - 8 * count) % 18446744073709551616 + 0x3030303030303030) % 18446744073709551616 ≡ word * 2 ^
    (64 - 8 * count) % 18446744073709551616 + 3472328296227680304 / 2 ^ (8 * count)
moved_values word zero fits some few = absurd (omega arith)
moved_values word (suc zero) fits some few = omega (arith, fits)
moved_values word (suc (suc zero)) fits some few = omega (arith, fits)
moved_values word (suc (suc (suc zero))) fits some few = omega (arith, fits)
moved_values word (suc (suc (suc (suc zero)))) fits some few = omega (arith, fits)
moved_values word (suc (suc (suc (suc (suc zero))))) fits some few = omega (arith, fits)
moved_values word (suc (suc (suc (suc (suc (suc zero)))))) fits some few = omega (arith, fits)
moved_values word (suc (suc (suc (suc (suc (suc (suc zero))))))) fits some few = omega (arith, fits)
moved_values word (suc (suc (suc (suc (suc (suc (suc (suc n)))))))) fits some few = absurd (omega arith)

len_8 : (text : List ℕ) (byte count : ℕ) → 8 ≤ length text → count < 8 → length (replicate (8 - count) byte ++ take count text) ≡ 8
len_8 text byte count long few = omega (
  arith,
  length-append (replicate (8 - count) byte) (take count text),
  length-replicate {A = ℕ} (8 - count)
      byte,
  length-take count text,
)

-- with zeros it is these, and the digits after them
front_is : (text : List ℕ) (word count : ℕ) → ((i : ℕ) → get_or text i 0 < 256) → 8 ≤ length text
    → word ≡ from_le_bytes w64 text → 0 < count → count < 8
    → IsFront text (word * 2 ^ (64 - 8 * count) % 18446744073709551616 + 3472328296227680304 / 2 ^ (8 * count)) count
front_is text word count each long is some few =
    let fits = small_of text each in
    record {
      some = some;
      few = few;
      within = long;
      bytes = le_bytes_8 (replicate (8 - count) 48 ++ take count text) _ (len_8 text 48 count long few)
          (fits_at (replicate (8 - count) 48 ++ take count text)
          (small_padded (8 - count) 48 (take count text) (omega arith) (small_take count text fits)))
          (front_number text word count fits long is some few).0;
    }

-- the same where the zeros are taken before
pub front_values : (text : List ℕ) (word count : ℕ) → ((i : ℕ) → get_or text i 0 < 256) → 8 ≤ length text
    → word ≡ from_le_bytes w64 text → word < 2 ^ 64 → 0 < count → count < 8
    → IsFront text (((word + 14974415777481871312) % 18446744073709551616 * 2 ^
    (64 - 8 * count) % 18446744073709551616 + 0x3030303030303030) % 18446744073709551616) count
front_values text word count each long is fits some few =
    subst (λ m. IsFront text m count) (sym (moved_values word count fits some few)) (front_is text word count each long is some few)

-- the bytes of such a word where what stands before them is 0
pub moved_bytes : (text : List ℕ) (word count : ℕ) → ((i : ℕ) → get_or text i 0 < 256) → 8 ≤ length text → word ≡ from_le_bytes w64 text → 0 < count
    → count < 8 → to_le_bytes w64 (word * 2 ^ (64 - 8 * count) % 18446744073709551616) ≡ replicate (8 - count) 0 ++ take count text
moved_bytes text word count each long is some few =
    let fits = small_of text each in
    le_bytes_8 (replicate (8 - count) 0 ++ take count text) _ (len_8 text 0 count long few)
    (fits_at (replicate (8 - count) 0 ++ take count text) (small_padded (8 - count) 0 (take count text) (omega arith) (small_take count text fits)))
    (front_number text word count fits long is some few).1
