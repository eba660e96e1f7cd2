-- Bytes as bits.
use Rattle.std.proofs.Common.{◌≡◌, ℕ, zero, suc, ◌+◌, ◌-◌, ◌*◌, ◌/◌, ◌%◌, ◌^◌, ◌<◌, ◌≤◌, Bool, false, List, [], ◌∷◌, ◌++◌, length, take, drop, set, get_or, replicate, refl, sym, ◌∙◌, ap, arith, inl, inr, zero-add, nat_eq, min, bit_or, bit_and, w64}
use Rattle.std.specs.Int.{bit_at, bit_not}
use Rattle.std.proofs.lemmas.List.{length-append, get_or_append_left, ext_get_or, get_or-set_same, get_or-set_other, length-set, get_or_past}
use Rattle.std.proofs.Common.{add-zero, ◌⊎◌}
use Rattle.std.proofs.lemmas.List.FromFn.{length-map-range_with_len, get_or-map-range_with_len}
use Rattle.std.proofs.lemmas.Nat.{div-add-mod'}
use Rattle.std.proofs.lemmas.Nat.Bits.{bit_at_and, bit_at-lt, bit_at_ones, bit_at_above, bit_at-zero}
use Rattle.std.proofs.lemmas.Bool.{cases_eq, cases_lt}
use Rattle.dym_bits.proofs.BitmapLemmas.{length-digits, get_or-digits, length-bits_of, get_or-bits_of, get_or-bits_of_at, bits_of-replicate}
use Rattle.dym_bits.proofs.Counts.{digits-suc, half_below, bits_of-append, bits_of-single, bits_of-take_more}
use Rattle.std.specs.Int.{bytes_low_first, byte_at, to_le_bytes, from_le_bytes}
use Rattle.std.proofs.Common.{cond, max, subst, append_assoc}
use Rattle.std.proofs.lemmas.List.{length-take, length-drop, get_or-take, get_or-drop, take-append-drop, take-take, drop-take, take_more_set, get_or-append_right, length-take-le}
use Rattle.std.proofs.lemmas.Nat.{shr-shr, pow-add, pow_pos, and_mask, shl_whole, le_bytes_8}
use Rattle.std.proofs.lemmas.Nat.Bits.{bit_at-lt, bit_at_lowest, bit_at_cat_low, bit_at_cat_high, bit_at_or, bit_at_and, bit_at_not, bit_at_ones, bit_at_ones_above, bit_at_above}
use Rattle.std.proofs.Math.Nat.{pow-suc}
use Rattle.std.proofs.lemmas.List.{drop-replicate, append-nil, take_all, replicate-append-replicate}
use Rattle.std.proofs.lemmas.Slice.{take-put_mid}
use borrow.Rule.Slice.PartMut.{put_mid}
use Rattle.dym_bits.specs.Bits.{digit, digits, bits_of, clear_bits, bit_in, bytes_of_bits, AreZeroFrom}
use Rattle.dym_bits.proofs.UsedWords.{zero_of_zeros, rest_is_zeros}
use Rattle.dym_base.specs.Packed.{bitmap, bitmap_byte, weight}
use Rattle.std.proofs.Common.{nat_lt, ◌&&◌, lit<, true}
use Rattle.std.proofs.lemmas.Bool.{lt-ltb, le-ltb}

-- ---- a part of a number

-- b bits of a number, from bit a on
pub digit-field : (n a b r : ℕ) → r < b → digit (n / 2 ^ a % 2 ^ b) r ≡ digit n (a + r)
digit-field n a b r short =
    ap (λ m. nat_eq m 1)
    (sym (bit_at_cat_low (n / 2 ^ a / 2 ^ b) b (n / 2 ^ a % 2 ^ b) r short)
    ∙ ap (λ m. bit_at m r) (div-add-mod' (n / 2 ^ a) (2 ^ b))
    ∙ ap (λ m. m % 2) (shr-shr n a r))

get_or-bytes_low_first : (i k n j : ℕ) → j < k → get_or (bytes_low_first i k n) j 0 ≡ byte_at (i + j) n
get_or-bytes_low_first i zero n j below = absurd (omega arith)
get_or-bytes_low_first i (suc k) n zero below = ap (λ m. byte_at m n) (omega arith)
get_or-bytes_low_first i (suc k) n (suc j) below =
    get_or-bytes_low_first (suc i) k n j (omega arith) ∙ ap (λ m. byte_at m n) (omega arith)

pow_of_byte : (j : ℕ) → 256 ^ j ≡ 2 ^ (j * 8)
pow_of_byte zero = refl
pow_of_byte (suc j) =
    pow-suc 256 j ∙ ap (λ m. m * 256) (pow_of_byte j) ∙ sym (ap (λ m. 2 ^ m) (omega arith) ∙ pow-add 2 (j * 8) 8)

byte_at_is : (j n : ℕ) → byte_at j n ≡ n / 2 ^ (j * 8) % 2 ^ 8
byte_at_is zero n = omega arith
byte_at_is (suc j) n = ap (λ m. n / m % 256) (pow_of_byte (suc j))

-- the bits of a word are those of its bytes
pub digits_of_bytes : (n : ℕ) → digits 64 n ≡ bits_of 8 (to_le_bytes w64 n)
digits_of_bytes n =
    ext_get_or false _ _ (length-digits 64 n ∙ sym (length-bits_of 8 (to_le_bytes w64 n)))
    (λ i below.
    let short : i < 64 = omega (arith, length-digits 64 n) in
    get_or-digits 64 n i short
    ∙ ap (digit n) (sym (div-add-mod' i 8))
    ∙ sym (digit-field n (i / 8 * 8) 8 (i % 8) (omega arith))
    ∙ ap (λ m. digit m (i % 8)) (sym (get_or-bytes_low_first 0 8 n (i / 8) (omega arith) ∙ ap (λ m. byte_at m n) (zero-add (i / 8)) ∙ byte_at_is (i / 8) n))
    ∙ sym (get_or-bits_of_at 8 (to_le_bytes w64 n) i (omega arith) short))

-- ---- eight bytes of a list

pub part_below : (bytes : List ℕ) (m at : ℕ) → ((k : ℕ) → get_or bytes k 0 < 256) → (i : ℕ) → get_or (take m (drop at bytes)) i 0 < 256
part_below bytes m at fits i =
    let Small : ℕ → Type 0 = λ n. n < 256 in
    elim (cases_lt i m) [
      | inl below ↦ subst Small (sym (get_or-take m (drop at bytes) i 0 below ∙ get_or-drop at bytes i 0)) (fits (at + i))
      | inr past ↦ subst Small (sym (get_or_past (take m (drop at bytes)) i 0 (omega (arith, length-take m (drop at bytes))))) (omega arith)
    ]

pub word_of_bytes : (bytes : List ℕ) (at n : ℕ) → at + 8 ≤ length bytes → ((k : ℕ) → get_or bytes k 0 < 256) → n ≡ from_le_bytes w64 (take 8 (drop at bytes)) → digits 64 n ≡ bits_of 8 (take 8 (drop at bytes))
word_of_bytes bytes at n within fits same =
    digits_of_bytes n
    ∙ ap (bits_of 8)
    (le_bytes_8 (take 8 (drop at bytes)) n (length-take-le 8 (drop at bytes) (omega (arith, length-drop at bytes))) (part_below bytes 8 at fits) same)

-- eight bytes more
pub take_eight_more : (bytes : List ℕ) (q : ℕ) → take (8 * (q + 1)) bytes ≡ take (8 * q) bytes ++ take 8 (drop (8 * q) bytes)
take_eight_more bytes q =
    let more : 8 * (q + 1) ≡ 8 * q + 8 = omega arith in
    ap (λ m. take m bytes) more
    ∙ sym (take-append-drop (8 * q) (take (8 * q + 8) bytes))
    ∙ ap (λ front. front ++ drop (8 * q) (take (8 * q + 8) bytes)) (take-take (8 * q) (8 * q + 8) bytes (omega arith))
    ∙ ap (λ rest. take (8 * q) bytes ++ rest) (drop-take (8 * q) 8 bytes)

-- ---- bits as bytes

-- the number with these bits, lowest first
abbrev number_of : List Bool → ℕ
number_of [] = 0
number_of (b ∷ bs) = cond b 1 0 + 2 * number_of bs

bit_is_number : (b : ℕ) → b < 2 → cond (nat_eq b 1) 1 0 ≡ b
bit_is_number zero below = refl
bit_is_number (suc zero) below = refl
bit_is_number (suc (suc b)) below = absurd (omega arith)

number_of-digits : (k n : ℕ) → n < 2 ^ k → number_of (digits k n) ≡ n
unfolding digits
number_of-digits zero n below = omega arith
number_of-digits (suc k) n below =
    ap number_of (digits-suc k n)
    ∙ ap (λ m. cond (digit n 0) 1 0 + 2 * m) (number_of-digits k (n / 2) (half_below k n below))
    ∙ ap (λ m. m + 2 * (n / 2)) (ap (λ b. cond (nat_eq b 1) 1 0) (bit_at_lowest n) ∙ bit_is_number (n % 2) (omega arith))
    ∙ omega arith

weight_of_bit : (t : Bool) (w : ℕ) → cond t w 0 ≡ w * cond t 1 0
weight_of_bit true w = omega arith
weight_of_bit false w = omega arith

-- the sum of a byte's weights
sum_of_weights : (b : ℕ) → b < 2 ^ 8 → (let at : ℕ → ℕ = λ j. cond (digit b j) (2 ^ j) 0 in at 0 + at 1 + at 2 + at 3 + at 4 + at 5 + at 6 + at 7) ≡ b
unfolding digits
sum_of_weights b below =
    let at : (j : ℕ) → cond (digit b j) (2 ^ j) 0 ≡ 2 ^ j * cond (digit b j) 1 0 = λ j. weight_of_bit (digit b j) (2 ^ j) in
    let all : number_of (digits 8 b) ≡ b = number_of-digits 8 b below in
    omega (arith, at 1, at 2, at 3, at 4, at 5, at 6, at 7, all)

-- two bitmaps that agree have the same bytes
bitmap_byte_same : (f g : ℕ → Bool) → ((i : ℕ) → f i ≡ g i) → (k : ℕ) → bitmap_byte f k ≡ bitmap_byte g k
bitmap_byte_same f g same k =
    let at : (j : ℕ) → weight f k j ≡ weight g k j = λ j. ap (λ t. cond t (2 ^ j) 0) (same (8 * k + j)) in
    omega (arith, at 0, at 1, at 2, at 3, at 4, at 5, at 6, at 7)

-- a byte whose bits are those of a bitmap
byte_of_bitmap : (f : ℕ → Bool) (k b : ℕ) → b < 2 ^ 8 → ((j : ℕ) → j < 8 → f (8 * k + j) ≡ digit b j) → bitmap_byte f k ≡ b
byte_of_bitmap f k b below same =
    let at : (j : ℕ) → j < 8 → weight f k j ≡ cond (digit b j) (2 ^ j) 0 = λ j short. ap (λ t. cond t (2 ^ j) 0) (same j short) in
    omega (arith, at 0 (lit< tt), at 1 (lit< tt), at 2 (lit< tt), at 3 (lit< tt), at 4 (lit< tt), at 5 (lit< tt), at 6 (lit< tt), at 7 (lit< tt), sum_of_weights b below)

byte_of_bytes : (bytes : List ℕ) (k : ℕ) → k < length bytes → get_or bytes k 0 < 256 → bitmap_byte (bit_in (bits_of 8 bytes)) k ≡ get_or bytes k 0
byte_of_bytes bytes k within fits =
    byte_of_bitmap (bit_in (bits_of 8 bytes)) k (get_or bytes k 0) fits
    (λ j short. ap (bit_in (bits_of 8 bytes)) (omega arith) ∙ get_or-bits_of 8 bytes k j within short)

-- the first n of the bytes that have all the bits
pub bytes_from_bits : (bytes : List ℕ) (n : ℕ) → n ≤ length bytes → ((k : ℕ) → get_or bytes k 0 < 256) → take n bytes ≡ bytes_of_bits n (bits_of 8 bytes)
unfolding bytes_of_bits
bytes_from_bits bytes n within fits =
    let long : length (take n bytes) ≡ n = length-take-le n bytes within in
    ext_get_or 0 _ _ (long ∙ sym (length-map-range_with_len (bitmap_byte (bit_in (bits_of 8 bytes))) 0 n))
    (λ k below.
    let short : k < n = omega arith in
    get_or-take n bytes k 0 short
    ∙ sym (byte_of_bytes bytes k (omega arith) (fits k))
    ∙ sym (get_or-map-range_with_len (bitmap_byte (bit_in (bits_of 8 bytes))) 0 n k k 0 short (zero-add k)))

-- bits past n that are clear may be left out
cut_bit : (bits : List Bool) (n : ℕ) → ((i : ℕ) → n ≤ i → bit_in bits i ≡ false) → (i : ℕ) → bit_in bits i ≡ (nat_lt i n && bit_in bits i)
cut_bit bits n clear i =
    elim (cases_lt i n) [
      | inl below ↦ sym (ap (λ t. t && bit_in bits i) (lt-ltb i n below))
      | inr past ↦ clear i past ∙ sym (ap (λ t. t && bit_in bits i) (le-ltb i n past))
    ]

pub bitmap_from_bits : (bits : List Bool) (m n : ℕ) → m ≡ max 1 (n / 8) → ((i : ℕ) → n ≤ i → bit_in bits i ≡ false) → bytes_of_bits m bits ≡ bitmap n (bit_in bits)
unfolding bytes_of_bits bitmap
bitmap_from_bits bits m n long clear =
    let cut : ℕ → Bool = λ i. nat_lt i n && bit_in bits i in
    ext_get_or 0 _ _
    (length-map-range_with_len (bitmap_byte (bit_in bits)) 0 m ∙ long ∙ sym (length-map-range_with_len (bitmap_byte cut) 0 (max 1 (n / 8))))
    (λ k below.
    let short : k < m = omega (arith, length-map-range_with_len (bitmap_byte (bit_in bits)) 0 m) in
    get_or-map-range_with_len (bitmap_byte (bit_in bits)) 0 m k k 0 short (zero-add k)
    ∙ bitmap_byte_same (bit_in bits) cut (cut_bit bits n clear) k
    ∙ sym (get_or-map-range_with_len (bitmap_byte cut) 0 (max 1 (n / 8)) k k 0 (omega arith) (zero-add k)))

-- byte k of words of 64 bits
pub byte_of_words : (ns : List ℕ) (k : ℕ) → k / 8 < length ns → bit_and (get_or ns (k / 8) 0 / 2 ^ (k % 8 * 8)) 255 ≡ bitmap_byte (bit_in (bits_of 64 ns)) k
byte_of_words ns k within =
    let n = get_or ns (k / 8) 0 in
    let a = k % 8 * 8 in
    let b = n / 2 ^ a % 2 ^ 8 in
    and_mask (n / 2 ^ a) 8
    ∙ sym (byte_of_bitmap (bit_in (bits_of 64 ns)) k b (omega arith)
    (λ j short.
    let at : 8 * k + j ≡ k / 8 * 64 + (a + j) = omega arith in
    ap (bit_in (bits_of 64 ns)) at
    ∙ get_or-bits_of 64 ns (k / 8) (a + j) within (omega arith)
    ∙ sym (digit-field n a 8 j short)))

-- ---- a byte put over eight bits

-- a number of few bits, shifted
digit_shifted_below : (x a j : ℕ) → j < a → bit_at (x * 2 ^ a) j ≡ 0
digit_shifted_below x a j below =
    ap (λ m. bit_at m j) (sym (add-zero (x * 2 ^ a))) ∙ bit_at_cat_low x a 0 j below ∙ bit_at-zero j

digit_shifted : (x a j : ℕ) → a ≤ j → bit_at (x * 2 ^ a) j ≡ bit_at x (j - a)
digit_shifted x a j at_least =
    ap (λ m. bit_at m j) (sym (add-zero (x * 2 ^ a))) ∙ bit_at_cat_high x a 0 j (pow_pos a) at_least

-- the word n with the byte v from bit a on
abbrev pub with_byte : ℕ → ℕ → ℕ → ℕ
with_byte n a v = bit_or (bit_and n (bit_not w64 (255 * 2 ^ a % 2 ^ 64))) (v * 2 ^ a % 2 ^ 64)

module _ (n a v j : ℕ) (room : a + 8 ≤ 64) (fits : v < 2 ^ 8) where
  bit_of_with_byte : j < 64 → bit_at (with_byte n a v) j ≡ max (min (bit_at n j) (1 - bit_at (255 * 2 ^ a) j)) (bit_at (v * 2 ^ a) j)
  bit_of_with_byte short =
      let mask = 255 * 2 ^ a % 2 ^ 64 in
      let value = v * 2 ^ a % 2 ^ 64 in
      bit_at_or (bit_and n (bit_not w64 mask)) value j
      ∙ ap (λ m. max m (bit_at value j)) (bit_at_and n (bit_not w64 mask) j ∙ ap (min (bit_at n j)) (bit_at_not w64 mask j (omega arith) short))
      ∙ (λ i. max (min (bit_at n j) (1 - bit_at (shl_whole 255 8 a 64 (omega arith) (omega arith) i) j)) (bit_at (shl_whole v 8 a 64 fits (omega arith) i) j))

  with_byte_inside : a ≤ j → j < a + 8 → digit (with_byte n a v) j ≡ digit v (j - a)
  with_byte_inside at_least below =
      ap (λ m. nat_eq m 1)
      (bit_of_with_byte (omega arith)
      ∙ omega (arith, digit_shifted 255 a j at_least, bit_at_ones 8 (j - a) (omega arith), digit_shifted v a j at_least, bit_at-lt n j))

  with_byte_outside : j < 64 → (j < a) ⊎ (a + 8 ≤ j) → digit (with_byte n a v) j ≡ digit n j
  with_byte_outside short away =
      ap (λ m. nat_eq m 1)
      (bit_of_with_byte short
      ∙ elim away [
        | inl before ↦ omega (arith, digit_shifted_below 255 a j before, digit_shifted_below v a j before, bit_at-lt n j)
        | inr after ↦
            let past : a ≤ j = omega arith in
            omega (arith, digit_shifted 255 a j past, bit_at_ones_above 8 (j - a) (omega arith), digit_shifted v a j past, bit_at_above v 8 (j - a) fits (omega arith), bit_at-lt n j)
      ])

place_away : (k i : ℕ) → i / 64 ≡ k / 8 → (i < 8 * k) ⊎ (8 * k + 8 ≤ i) → (i % 64 < k % 8 * 8) ⊎ (k % 8 * 8 + 8 ≤ i % 64)
place_away k i word away = elim away [ inl before ↦ inl (omega arith) | inr after ↦ inr (omega arith) ]

-- a list with a part replaced, read in the part and beside it
module _ (bits part : List Bool) (at : ℕ) (room : at + length part ≤ length bits) where
  abbrev replaced : List Bool
  replaced = take at bits ++ part ++ drop (at + length part) bits

  front_length : length (take at bits) ≡ at
  front_length = length-take-le at bits (omega arith)

  part_length : length (take at bits ++ part) ≡ at + length part
  part_length = length-append (take at bits) part ∙ ap (λ n. n + length part) front_length

  read_part : (i : ℕ) → at ≤ i → i < at + length part → get_or replaced i false ≡ get_or part (i - at) false
  read_part i at_least below =
      get_or_append_left (take at bits ++ part) (drop (at + length part) bits) false i (omega (arith, part_length))
      ∙ get_or-append_right (take at bits) part at i false front_length at_least

  read_beside : (i : ℕ) → (i < at) ⊎ (at + length part ≤ i) → get_or replaced i false ≡ get_or bits i false
  read_beside i away =
      elim away [
        | inl before ↦
            get_or_append_left (take at bits ++ part) (drop (at + length part) bits) false i (omega (arith, part_length))
            ∙ get_or_append_left (take at bits) part false i (omega (arith, front_length))
            ∙ get_or-take at bits i false before
        | inr after ↦
            get_or-append_right (take at bits ++ part) (drop (at + length part) bits) (at + length part) i false part_length after
            ∙ get_or-drop (at + length part) bits (i - (at + length part)) false
            ∙ ap (λ j. get_or bits j false) (omega arith)
      ]

  length_replaced : length replaced ≡ length bits
  length_replaced =
      omega (arith, length-append (take at bits ++ part) (drop (at + length part) bits), part_length, length-drop (at + length part) bits)

-- the words where word k / 8 has the byte v put over it
module _ (ns : List ℕ) (k v : ℕ) (within : k / 8 < length ns) (fits : v < 2 ^ 8) where
  abbrev word : ℕ
  word = with_byte (get_or ns (k / 8) 0) (k % 8 * 8) v

  abbrev put : List ℕ
  put = set ns (k / 8) word

  put_digit : (i : ℕ) → i / 64 ≡ k / 8 → digit (get_or put (i / 64) 0) (i % 64) ≡ digit word (i % 64)
  put_digit i here =
      ap (λ q. digit (get_or put q 0) (i % 64)) here
      ∙ ap (λ m. digit m (i % 64)) (get_or-set_same ns (k / 8) word 0 within)

  put_inside : (i : ℕ) → 8 * k ≤ i → i < 8 * k + 8 → digit (get_or put (i / 64) 0) (i % 64) ≡ digit v (i - 8 * k)
  put_inside i at_least below =
      let place : i % 64 ≡ k % 8 * 8 + (i - 8 * k) = omega arith in
      put_digit i (omega arith)
      ∙ with_byte_inside (get_or ns (k / 8) 0) (k % 8 * 8) v (i % 64) (omega arith) fits (omega arith) (omega arith)
      ∙ ap (digit v) (omega arith)

  put_outside : (i : ℕ) → (i < 8 * k) ⊎ (8 * k + 8 ≤ i) → digit (get_or put (i / 64) 0) (i % 64) ≡ digit (get_or ns (i / 64) 0) (i % 64)
  put_outside i away =
      elim (cases_eq (i / 64) (k / 8)) [
        | inl here ↦
            put_digit i here
            ∙ with_byte_outside (get_or ns (k / 8) 0) (k % 8 * 8) v (i % 64) (omega arith) fits (omega arith) (place_away k i here away)
            ∙ sym (ap (λ q. digit (get_or ns q 0) (i % 64)) here)
        | inr other ↦ ap (λ m. digit m (i % 64)) (get_or-set_other ns (k / 8) (i / 64) word 0 other)
      ]

  replaced_at : (i : ℕ) → i < length ns * 64 → (part : List Bool) → part ≡ digits 8 v → length part ≡ 8 → digit (get_or put (i / 64) 0) (i % 64) ≡ get_or (take (8 * k) (bits_of 64 ns) ++ part ++ drop (8 * k + length part) (bits_of 64 ns)) i false
  replaced_at i inside part part_is long =
      let bits = bits_of 64 ns in
      let room : 8 * k + length part ≤ length bits = omega (arith, length-bits_of 64 ns) in
      let beside = λ (away : (i < 8 * k) ⊎ (8 * k + 8 ≤ i)) (apart : (i < 8 * k) ⊎ (8 * k + length part ≤ i)).
      put_outside i away ∙ sym (read_beside bits part (8 * k) room i apart ∙ get_or-bits_of_at 64 ns i (omega arith) inside) in
      elim (cases_lt i (8 * k)) [
        | inl before ↦ beside (inl before) (inl before)
        | inr from_here ↦
            elim (cases_lt i (8 * k + 8)) [
              | inl below ↦
                  put_inside i from_here below
                  ∙ sym (read_part bits part (8 * k) room i from_here (omega arith) ∙ ap (λ bs. get_or bs (i - 8 * k) false) part_is ∙ get_or-digits 8 v (i - 8 * k) (omega arith))
              | inr after ↦ beside (inr after) (inr (omega arith))
            ]
      ]

  pub bits_with_byte : bits_of 64 put ≡ take (8 * k) (bits_of 64 ns) ++ digits 8 v ++ drop (8 * k + 8) (bits_of 64 ns)
  bits_with_byte =
      let put_length : length (bits_of 64 put) ≡ length ns * 64 = length-bits_of 64 put ∙ ap (λ l. l * 64) (length-set ns (k / 8) word) in
      ext_get_or false _ _
      (put_length ∙ sym (length_replaced (bits_of 64 ns) (digits 8 v) (8 * k) (omega (arith, length-bits_of 64 ns, length-digits 8 v)) ∙ length-bits_of 64 ns))
      (λ i below.
      get_or-bits_of_at 64 put i (omega arith) (omega (arith, length-bits_of 64 put))
      ∙ replaced_at i (omega arith) (digits 8 v) refl (length-digits 8 v))
      ∙ ap (λ n. take (8 * k) (bits_of 64 ns) ++ digits 8 v ++ drop (8 * k + n) (bits_of 64 ns)) (length-digits 8 v)

-- ---- bytes that fill the words

-- fewer than eight bytes, filled up with 0
module _ (front bytes : List ℕ) (same : front ≡ bytes) (fits : (k : ℕ) → get_or bytes k 0 < 256) where
  abbrev padding : List ℕ
  padding = drop (length bytes) (replicate 8 0)

  filled_below : (i : ℕ) → get_or (front ++ padding) i 0 < 256
  filled_below i =
      let Small : ℕ → Type 0 = λ n. n < 256 in
      elim (cases_lt i (length front)) [
        | inl below ↦ subst Small (sym (get_or_append_left front padding 0 i below ∙ ap (λ xs. get_or xs i 0) same)) (fits i)
        | inr past ↦
            subst Small
            (sym (get_or-append_right front padding (length front) i 0 refl past
            ∙ get_or-drop (length bytes) (replicate 8 0) (i - length front) 0
            ∙ zero_of_zeros 8 (length bytes + (i - length front))))
            (omega arith)
      ]

  pub word_of_filled : (n : ℕ) → length bytes < 8 → n ≡ from_le_bytes w64 (front ++ padding) → digits 64 n ≡ bits_of 8 bytes ++ clear_bits (64 - 8 * length bytes)
  word_of_filled n short is =
      let long : length (front ++ padding) ≡ 8 = length-append front padding ∙ omega (arith, ap length same, length-drop (length bytes) (replicate {A = ℕ} 8 0)) in
      digits_of_bytes n
      ∙ ap (bits_of 8) (le_bytes_8 (front ++ padding) n long filled_below is ∙ ap (λ xs. xs ++ padding) same)
      ∙ bits_of-append 8 bytes padding
      ∙ ap (λ bits. bits_of 8 bytes ++ bits)
      (ap (bits_of 8) (drop-replicate (length bytes) 8 0)
      ∙ bits_of-replicate 8 (8 - length bytes) (omega arith)
      ∙ ap clear_bits (omega arith))

-- no clear bits behind a list, and more of them
pub none_behind : (bits : List Bool) (n : ℕ) → n ≡ 0 → bits ++ clear_bits n ≡ bits
unfolding clear_bits
none_behind bits n none = ap (λ m. bits ++ clear_bits m) none ∙ append-nil bits

more_clear : (m n : ℕ) → clear_bits m ++ clear_bits n ≡ clear_bits (m + n)
unfolding clear_bits
more_clear m n = replicate-append-replicate m n false

-- the bytes that are left, where they are fewer than eight
pub last_word : (bytes : List ℕ) (at n : ℕ) → length bytes - at < 8
    → (let rest = take (length bytes - at) (drop at bytes) in digits 64 n ≡ bits_of 8 rest ++ clear_bits (64 - 8 * length rest))
    → digits 64 n ≡ bits_of 8 (take 8 (drop at bytes)) ++ clear_bits (64 - 8 * (length bytes - at))
last_word bytes at n few is =
    let left = drop at bytes in
    let whole : (m : ℕ) → length bytes - at ≤ m → take m left ≡ left = λ m all. take_all m left (omega (arith, length-drop at bytes)) in
    let eight : take 8 left ≡ left = whole 8 (omega arith) in
    is
    ∙ ap (λ xs. bits_of 8 xs ++ clear_bits (64 - 8 * length xs)) (whole (length bytes - at) (omega arith) ∙ sym eight)
    ∙ ap (λ m. bits_of 8 (take 8 left) ++ clear_bits (64 - 8 * m)) (ap length eight ∙ length-drop at bytes)

-- numbers that are 0 from number n on
bits_past_used : (k : ℕ) (ns : List ℕ) (n m : ℕ) → 0 < k → length ns ≡ m → AreZeroFrom n ns → bits_of k ns ≡ bits_of k (take n ns) ++ clear_bits ((m - n) * k)
bits_past_used k ns n m some long rest =
    ap (bits_of k) (sym (take-append-drop n ns))
    ∙ bits_of-append k (take n ns) (drop n ns)
    ∙ ap (λ bits. bits_of k (take n ns) ++ bits) (ap (bits_of k) (rest_is_zeros ns n m long rest) ∙ bits_of-replicate k (m - n) some)

-- one word more, read from bytes
pub word_from_bytes : (ns bytes : List ℕ) (q n : ℕ) → q < length ns → 8 * q ≤ length bytes
    → bits_of 64 (take q ns) ≡ bits_of 8 (take (8 * q) bytes) ++ clear_bits (64 * q - 8 * length bytes)
    → digits 64 n ≡ bits_of 8 (take 8 (drop (8 * q) bytes)) ++ clear_bits (64 - 8 * (length bytes - 8 * q))
    → bits_of 64 (take (q + 1) (set ns q n)) ≡ bits_of 8 (take (8 * (q + 1)) bytes) ++ clear_bits (64 * (q + 1) - 8 * length bytes)
word_from_bytes ns bytes q n within left so_far next =
    let front = bits_of 8 (take (8 * q) bytes) in
    let eight = take 8 (drop (8 * q) bytes) in
    let past = clear_bits (64 - 8 * (length bytes - 8 * q)) in
    ap (bits_of 64) (take_more_set ns q n within)
    ∙ bits_of-append 64 (take q ns) (n ∷ [])
    ∙ (λ i. (so_far ∙ none_behind front (64 * q - 8 * length bytes) (omega arith)) i ++ (bits_of-single 64 n ∙ next) i)
    ∙ sym (append_assoc front (bits_of 8 eight) past)
    ∙ ap (λ bits. bits ++ past) (sym (ap (bits_of 8) (take_eight_more bytes q) ∙ bits_of-append 8 (take (8 * q) bytes) eight))
    ∙ ap (λ m. bits_of 8 (take (8 * (q + 1)) bytes) ++ clear_bits m) (omega arith)

-- all words read from bytes
pub bits_from_bytes : (words bytes : List ℕ) (used : ℕ) → length words ≡ 32 → used ≤ 32 → length bytes ≤ 8 * used → AreZeroFrom used words
    → bits_of 64 (take used words) ≡ bits_of 8 (take (8 * used) bytes) ++ clear_bits (64 * used - 8 * length bytes)
    → bits_of 64 words ≡ bits_of 8 bytes ++ clear_bits (2048 - 8 * length bytes)
bits_from_bytes words bytes used long within all rest same =
    let behind = clear_bits ((32 - used) * 64) in
    let past = clear_bits (64 * used - 8 * length bytes) in
    let cut : 64 * used - 8 * length bytes + (32 - used) * 64 ≡ 2048 - 8 * length bytes = omega arith in
    bits_past_used 64 words used 32 (omega arith) long rest
    ∙ ap (λ bits. bits ++ behind) (same ∙ ap (λ xs. bits_of 8 xs ++ past) (take_all (8 * used) bytes all))
    ∙ append_assoc (bits_of 8 bytes) past behind
    ∙ ap (λ bits. bits_of 8 bytes ++ bits) (more_clear (64 * used - 8 * length bytes) ((32 - used) * 64) ∙ ap clear_bits cut)

-- a part written leaves the length
pub length-put_mid : (a k : ℕ) (xs part : List ℕ) → a + k ≤ length xs → length part ≡ k → length (put_mid a k xs part) ≡ length xs
length-put_mid a k xs part room long =
    omega (arith, length-append (take a xs) (part ++ drop k (drop a xs)), length-append part (drop k (drop a xs)), length-take-le a xs (omega arith), length-drop k (drop a xs), length-drop a xs)

-- one word more, written as bytes
pub word_to_bytes : (ns bytes part : List ℕ) (q k : ℕ) → q < length ns → 8 * q ≤ length bytes → part ≡ to_le_bytes w64 (get_or ns q 0) → bits_of 8 (take (8 * q) bytes) ≡ bits_of 64 (take q ns) → bits_of 8 (take (8 * (q + 1)) (put_mid (8 * q) k bytes part)) ≡ bits_of 64 (take (q + 1) ns)
word_to_bytes ns bytes part q k within room written so_far =
    ap (bits_of 8) (take-put_mid (8 * q) k bytes part (8 * (q + 1)) (omega (arith, ap length written)) room)
    ∙ bits_of-append 8 (take (8 * q) bytes) part
    ∙ ap (λ bits. bits ++ bits_of 8 part) so_far
    ∙ ap (λ bits. bits_of 64 (take q ns) ++ bits) (ap (bits_of 8) written ∙ sym (digits_of_bytes (get_or ns q 0)))
    ∙ sym (bits_of-take_more 64 ns q within)
