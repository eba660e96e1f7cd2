-- Bitmaps and their bits.
use Rattle.std.proofs.Common.{◌≡◌, ℕ, zero, suc, ◌+◌, ◌*◌, ◌/◌, ◌%◌, ◌<◌, ◌≤◌, max, Bool, true, false, cond, nat_lt, nat_eq, ◌&&◌, List, length, map, get_or, refl, sym, ◌∙◌, ap, arith, inl, inr}
use Rattle.std.specs.Int.{bit_at}
use Rattle.std.specs.List.{range_with_len}
use Rattle.std.proofs.lemmas.Bool.{cases_lt, lt-ltb, le-ltb, and_left}
use Rattle.std.proofs.lemmas.Nat.{div-add-mod'}
use Rattle.std.proofs.lemmas.List.{get_or_past}
use Rattle.std.proofs.lemmas.List.FromFn.{length-map-range_with_len, get_or-map-range_with_len}
use mathlib.Core.Path.{fun_ext}
use Rattle.dym_base.specs.Packed.{bitmap_byte, bitmap}
use Rattle.dym_bits.specs.Bits.{bits_of_bytes, bit_in}
use Rattle.dym_bits.proofs.BitmapLemmas.{length-bits_of, get_or-bits_of_at}

pub length_bitmap : (n : ℕ) (f : ℕ → Bool) → length (bitmap n f) ≡ max 1 (n / 8)
unfolding bitmap
length_bitmap n f = length-map-range_with_len _ 0 (max 1 (n / 8))

-- a bitmap of n bits speaks of those below n alone
pub bitmap_same : (n : ℕ) (f g : ℕ → Bool) → ((i : ℕ) → i < n → f i ≡ g i) → bitmap n f ≡ bitmap n g
unfolding bitmap
bitmap_same n f g same =
    ap (λ (h : ℕ → Bool). map (bitmap_byte h) (range_with_len 0 (max 1 (n / 8))))
    (fun_ext (λ i. elim (cases_lt i n) [
      | inl below ↦ ap (λ b. nat_lt i n && b) (same i below)
      | inr above ↦ and_left (nat_lt i n) (f i) (le-ltb i n above) ∙ sym (and_left (nat_lt i n) (g i) (le-ltb i n above))
    ]))

pub bit_told : (n i : ℕ) (f b : Bool) → b ≡ (nat_lt i n && f) → i < n → b ≡ f
bit_told n i f b is below = is ∙ ap (λ t. t && f) (lt-ltb i n below)

-- a bitmap from bits that say the same below n
pub bitmap_of_bits : (n : ℕ) (bits : List Bool) (f : ℕ → Bool) → ((i : ℕ) → get_or bits i false ≡ (nat_lt i n && f i)) → bitmap n (bit_in bits) ≡ bitmap n f
bitmap_of_bits n bits f told = bitmap_same n (bit_in bits) f (λ i below. bit_told n i (f i) (get_or bits i false) (told i) below)

pub clear_past : (n : ℕ) (bits : List Bool) (f : ℕ → Bool) → ((i : ℕ) → get_or bits i false ≡ (nat_lt i n && f i)) → (i : ℕ) → n ≤ i → get_or bits i false ≡ false
clear_past n bits f told i past = told i ∙ and_left (nat_lt i n) (f i) (le-ltb i n past)

-- ---- the bits of a byte

eight : (a b c d e f g h : ℕ) → a < 2 → b < 2 → c < 2 → d < 2 → e < 2 → f < 2 → g < 2 → h < 2 → (let n = a + b * 2 + c * 4 + d * 8 + e * 16 + f * 32 + g * 64 + h * 128 in
    (n % 2 ≡ a) × (n / 2 % 2 ≡ b) × (n / 4 % 2 ≡ c) × (n / 8 % 2 ≡ d) × (n / 16 % 2 ≡ e) × (n / 32 % 2 ≡ f) × (n / 64 % 2 ≡ g) × (n / 128 % 2 ≡ h))
eight a b c d e f g h ka kb kc kd ke kf kg kh = (omega arith, omega arith, omega arith, omega arith, omega arith, omega arith, omega arith, omega arith)

cond_times : (t : Bool) (w : ℕ) → cond t w 0 ≡ cond t 1 0 * w
cond_times true w = omega arith
cond_times false w = omega arith

bit_few : (t : Bool) → cond t 1 0 < 2
bit_few true = omega arith
bit_few false = omega arith

-- a byte of a bitmap by its bits as numbers
byte_is : (f : ℕ → Bool) (q : ℕ) → (let b : ℕ → ℕ = λ j. cond (f (8 * q + j)) 1 0 in bitmap_byte f q ≡ b 0 + b 1 * 2 + b 2 * 4 + b 3 * 8 + b 4 * 16 + b 5 * 32 + b 6 * 64 + b 7 * 128)
byte_is f q =
    omega (arith, cond_times (f (8 * q + 1)) 2, cond_times (f (8 * q + 2)) 4, cond_times (f (8 * q + 3)) 8, cond_times (f (8 * q + 4)) 16, cond_times (f (8 * q + 5)) 32, cond_times (f (8 * q + 6)) 64, cond_times (f (8 * q + 7)) 128)

by_place : (r : ℕ) → r < 8 → (P : ℕ → Type 0) → P 0 → P 1 → P 2 → P 3 → P 4 → P 5 → P 6 → P 7 → P r
by_place zero short P a b c d e f g h = a
by_place (suc zero) short P a b c d e f g h = b
by_place (suc (suc zero)) short P a b c d e f g h = c
by_place (suc (suc (suc zero))) short P a b c d e f g h = d
by_place (suc (suc (suc (suc zero)))) short P a b c d e f g h = e
by_place (suc (suc (suc (suc (suc zero))))) short P a b c d e f g h = f
by_place (suc (suc (suc (suc (suc (suc zero)))))) short P a b c d e f g h = g
by_place (suc (suc (suc (suc (suc (suc (suc zero))))))) short P a b c d e f g h = h
by_place (suc (suc (suc (suc (suc (suc (suc (suc r)))))))) short P a b c d e f g h = absurd (omega arith)

pub bit_of_byte : (f : ℕ → Bool) (q r : ℕ) → r < 8 → bit_at (bitmap_byte f q) r ≡ cond (f (8 * q + r)) 1 0
bit_of_byte f q r short =
    let b : ℕ → ℕ = λ j. cond (f (8 * q + j)) 1 0 in
    let few : (j : ℕ) → b j < 2 = λ j. bit_few (f (8 * q + j)) in
    let each = eight (b 0) (b 1) (b 2) (b 3) (b 4) (b 5) (b 6) (b 7) (few 0) (few 1) (few 2) (few 3) (few 4) (few 5) (few 6) (few 7) in
    ap (λ n. bit_at n r) (byte_is f q) ∙ by_place r short (λ j. bit_at (b 0 + b 1 * 2 + b 2 * 4 + b 3 * 8 + b 4 * 16 + b 5 * 32 + b 6 * 64 + b 7 * 128) j ≡ b j)
    (ap (λ m. m % 2) (omega arith) ∙ each.0) each.1 each.2 each.3 each.4 each.5 each.6 each.7

-- bit i of the bytes of a bitmap
pub bit_of_bitmap : (n : ℕ) (f : ℕ → Bool) (i : ℕ) → i < 8 * max 1 (n / 8) → bit_at (get_or (bitmap n f) (i / 8) 0) (i % 8) ≡ cond (nat_lt i n && f i) 1 0
unfolding bitmap
bit_of_bitmap n f i below =
    let g : ℕ → Bool = λ j. nat_lt j n && f j in
    let offset : 8 * (i / 8) + i % 8 ≡ i = omega (arith, div-add-mod' i 8) in
    ap (λ m. bit_at m (i % 8)) (get_or-map-range_with_len (bitmap_byte g) 0 (max 1 (n / 8)) (i / 8) (i / 8) 0 (omega arith) (omega arith))
    ∙ bit_of_byte g (i / 8) (i % 8) (omega arith)
    ∙ ap (λ j. cond (g j) 1 0) offset

is_one : (t : Bool) → nat_eq (cond t 1 0) 1 ≡ t
is_one true = refl
is_one false = refl

pub test_of_bitmap : (n : ℕ) (f : ℕ → Bool) (i : ℕ) → i < n → i < 8 * max 1 (n / 8) → nat_eq (bit_at (get_or (bitmap n f) (i / 8) 0) (i % 8)) 1 ≡ f i
test_of_bitmap n f i inside below =
    ap (λ m. nat_eq m 1) (bit_of_bitmap n f i below) ∙ is_one (nat_lt i n && f i) ∙ ap (λ t. t && f i) (lt-ltb i n inside)

-- the bits that a bitmap's bytes have
pub bits_of_bitmap : (n : ℕ) (f : ℕ → Bool) (i : ℕ) → n ≤ 8 * max 1 (n / 8) → bit_in (bits_of_bytes (bitmap n f)) i ≡ (nat_lt i n && f i)
bits_of_bitmap n f i room =
    elim (cases_lt i (length (bitmap n f) * 8)) [
      | inl below ↦
          get_or-bits_of_at 8 (bitmap n f) i (omega arith) below
          ∙ ap (λ m. nat_eq m 1) (bit_of_bitmap n f i (omega (arith, length_bitmap n f)))
          ∙ is_one (nat_lt i n && f i)
      | inr past ↦
          get_or_past (bits_of_bytes (bitmap n f)) i false (omega (arith, length-bits_of 8 (bitmap n f)))
          ∙ sym (and_left (nat_lt i n) (f i) (le-ltb i n (omega (arith, length_bitmap n f))))
    ]

-- bitmaps that are the same have the same bits
pub bitmap_tells : (n : ℕ) (f g : ℕ → Bool) → n ≤ 8 * max 1 (n / 8) → bitmap n f ≡ bitmap n g → (i : ℕ) → i < n → f i ≡ g i
bitmap_tells n f g room same i below =
    sym (ap (λ t. t && f i) (lt-ltb i n below))
    ∙ sym (bits_of_bitmap n f i room)
    ∙ ap (λ bytes. bit_in (bits_of_bytes bytes) i) same
    ∙ bits_of_bitmap n g i room
    ∙ ap (λ t. t && g i) (lt-ltb i n below)
