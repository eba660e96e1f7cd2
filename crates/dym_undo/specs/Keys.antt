-- The handles that can be live within a quota, and the bit that each has among the stamps.
use Rattle.std.specs.Prelude.{ℕ, ◌+◌, ◌*◌, ◌/◌, ◌%◌, ◌^◌, ◌<◌, ◌≤◌, Bool, ◌==◌, List, slice_index, slice_set}
use Rattle.std.specs.Int.{bit_at, bit_not, w64}
use Rattle.std.specs.Prelude.{bit_and, bit_or}
use Rattle.dym_base.specs.Numbers.{per, exponent_of, index_of}
use Rattle.dym_base.specs.declared.limits.TheConstants.{LEAST_EXPONENT, GREATEST_EXPONENT}

-- the number of a handle of a class, whose area is within the quota
pub record IsKey (quota k : ℕ) : Type 0 where
  pub least : LEAST_EXPONENT ≤ exponent_of k
  pub greatest : exponent_of k ≤ GREATEST_EXPONENT
  pub area : index_of k / per (exponent_of k) < quota

-- the bits of one area of each class stand together, those of a class of n chunks an area from n on
abbrev pub bit_of_class : ℕ → ℕ → ℕ
bit_of_class n i = i / n * 4096 + (n + i % n)

-- the bit of the handle of number k
unfoldable pub stamp_bit : ℕ → ℕ
stamp_bit k = bit_of_class (per (exponent_of k)) (index_of k)

-- the bit's weight in its word
abbrev pub weight : ℕ → ℕ
weight k = 1 * 2 ^ (stamp_bit k % 64) % 2 ^ 64

-- whether the bit of number k is set
unfoldable pub is_stamped : List ℕ → ℕ → Bool
is_stamped words k = bit_at (slice_index words (stamp_bit k / 64)) (stamp_bit k % 64) == 1

-- the words with that bit set, and with it clear
unfoldable pub with_stamp : List ℕ → ℕ → List ℕ
with_stamp words k = slice_set words (stamp_bit k / 64) (bit_or (slice_index words (stamp_bit k / 64)) (weight k))

unfoldable pub without_stamp : List ℕ → ℕ → List ℕ
without_stamp words k = slice_set words (stamp_bit k / 64) (bit_and (slice_index words (stamp_bit k / 64)) (bit_not w64 (weight k)))
