-- Numbers and bytes read as bits, and what the searches of a bitmap find.
use Rattle.std.specs.Prelude.{◌≡◌, ℕ, ◌/◌, ◌<◌, ◌≤◌, Bool, true, false, ◌==◌, List, length, map, replicate, slice_index_or, count_by, flat_map}
use Rattle.std.specs.List.{range_with_len}
use Rattle.std.specs.Int.{bit_at}
use Rattle.dym_base.specs.Packed.{bitmap_byte}

-- ---- bits of numbers

-- bit i of a number, which has the weight 2 ^ i
abbrev pub digit : ℕ → ℕ → Bool
digit n i = bit_at n i == 1

-- the k lowest bits of a number, lowest first
unfoldable pub digits : ℕ → ℕ → List Bool
digits k n = map (digit n) (range_with_len 0 k)

-- the bits of numbers of k bits each, one number after the other
unfoldable pub bits_of : ℕ → List ℕ → List Bool
bits_of k numbers = flat_map (digits k) numbers

-- the bits of bytes: bit i stands in byte i / 8 at the weight 2 ^ (i % 8)
abbrev pub bits_of_bytes : List ℕ → List Bool
bits_of_bytes bytes = bits_of 8 bytes

-- all words from word n on are 0
abbrev pub AreZeroFrom : ℕ → List ℕ → Type 0
AreZeroFrom n words = (q : ℕ) → n ≤ q → slice_index_or words q 0 ≡ 0

-- ---- bytes of bits

-- whether bit i is set; a bit past the end is clear
abbrev pub bit_in : List Bool → ℕ → Bool
bit_in bits i = slice_index_or bits i false

-- the first 8 * n bits as n bytes
unfoldable pub bytes_of_bits : ℕ → List Bool → List ℕ
bytes_of_bits n bits = map (bitmap_byte (bit_in bits)) (range_with_len 0 n)

-- ---- lists of bits

-- n bits, none of which is set
unfoldable pub clear_bits : ℕ → List Bool
clear_bits n = replicate n false

-- bit i is set, or clear
abbrev pub IsSet : List Bool → ℕ → Type 0
IsSet bits i = bit_in bits i ≡ true

abbrev pub IsClear : List Bool → ℕ → Type 0
IsClear bits i = bit_in bits i ≡ false

-- how many bits are set
abbrev pub set_count : List Bool → ℕ
set_count bits = count_by (λ b. b) bits

-- i is the least clear index below the limit
pub record IsFirstClear (bits : List Bool) (limit i : ℕ) : Type 0 where
  pub below : i < limit
  pub is_clear : IsClear bits i
  pub least : (k : ℕ) → k < i → IsSet bits k

-- i is the least set index that is at least `from`
pub record IsNextSet (bits : List Bool) (from i : ℕ) : Type 0 where
  pub within : i < length bits
  pub at_least : from ≤ i
  pub is_set : IsSet bits i
  pub least : (k : ℕ) → from ≤ k → k < i → IsClear bits k

-- i is the least clear index that is at least `from`
pub record IsNextClear (bits : List Bool) (from i : ℕ) : Type 0 where
  pub within : i < length bits
  pub at_least : from ≤ i
  pub is_clear : IsClear bits i
  pub least : (k : ℕ) → from ≤ k → k < i → IsSet bits k

-- and i is in the same word of 64 bits
pub record IsNextClearInWord (bits : List Bool) (from i : ℕ) : Type 0 where
  pub next : IsNextClear bits from i
  pub word : i / 64 ≡ from / 64

-- i is the greatest set index
pub record IsTopSet (bits : List Bool) (i : ℕ) : Type 0 where
  pub within : i < length bits
  pub is_set : IsSet bits i
  pub greatest : (k : ℕ) → i < k → IsClear bits k
