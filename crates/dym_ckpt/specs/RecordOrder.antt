-- What it is for a record to stand on the one before it.
use Rattle.std.specs.Prelude.{◌≡◌, ℕ, ◌<◌, true, false, List}
use Rattle.std.specs.FinMap.{contains_key}
use Rattle.dym_base.specs.Packed.{Logged, packs_by}
use Rattle.dym_bits.specs.Bits.{bit_in, bits_of_bytes}
use Rattle.dym_pack.specs.Areas.{AreaName, chunks_of, chunk_number, is_used_at}
use Rattle.dym_pack.specs.ParsedAreas.{packs_at}

-- a bit of the bytes of a bitmap is set, or clear
abbrev pub HasBit : List ℕ → ℕ → Type 0
HasBit bytes i = bit_in (bits_of_bytes bytes) i ≡ true

abbrev pub LacksBit : List ℕ → ℕ → Type 0
LacksBit bytes i = bit_in (bits_of_bytes bytes) i ≡ false

-- the area of a class and an ordinal
abbrev pub named : ℕ → ℕ → AreaName
named e o = record { exponent = e; ordinal = o }

-- each chunk that a log uses and doesn't pack is used in the one before it
abbrev pub IsBased : Logged → Logged → Type 0
IsBased before log = (k : ℕ) → contains_key log.copy k ≡ true → packs_by log.kind log.copy log.found k ≡ false → contains_key before.copy k ≡ true

-- the same of the chunks of area a of the log
abbrev pub AreaIsBased : Logged → Logged → ℕ → Type 0
AreaIsBased before log a =
    (i : ℕ) → i < chunks_of log.copy a → is_used_at log.copy a i ≡ true → packs_at log a i ≡ false
    → contains_key before.copy (chunk_number log.copy a i) ≡ true
