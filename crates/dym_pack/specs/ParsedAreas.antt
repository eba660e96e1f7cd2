-- What the readers of a record answer. A record is seen as its bytes; whatever log has these bytes, a reader tells of it.
use Rattle.std.specs.Prelude.{◌≡◌, ℕ, ◌-◌, ◌<◌, ◌^◌, Bool, ◌&&◌, nat_lt, List, ◌++◌, length}
use Rattle.std.specs.List.{flat_map, filter, range_with_len, AllByRecursion}
use Rattle.dym_base.specs.Packed.{Logged, packed, packs_by, packed_chunk}
use Rattle.dym_base.specs.Recorded.{IsRecorded}
use Rattle.dym_base.specs.declared.command.Version.TheVariants.{Two}
use Rattle.dym_bits.specs.Bits.{bit_in}
use Rattle.dym_pack.specs.Areas.{chunks_of, chunk_number, bytes_at}

-- what is true of each log that has these bytes
abbrev pub OfLog : List ℕ → (Logged → Type 0) → Type 0
OfLog bytes P = (log : Logged) → IsRecorded log → packed log ≡ bytes → P log

-- the bytes are those of a log
abbrev pub IsRecord : List ℕ → Type 0
IsRecord bytes = (log : Logged) × IsRecorded log × (packed log ≡ bytes)

-- whether a log packs chunk i of area k
abbrev pub packs_at : Logged → ℕ → ℕ → Bool
packs_at log k i = packs_by log.kind log.copy log.found (chunk_number log.copy k i)

-- bits that say which chunks of area k a log packs
abbrev pub IsPackedBits : Logged → ℕ → List Bool → Type 0
IsPackedBits log k bits = (i : ℕ) → bit_in bits i ≡ (nat_lt i (chunks_of log.copy k) && packs_at log k i)

-- the chunks of area k from `from` on that a log packs
abbrev pub packed_from : Logged → ℕ → ℕ → List ℕ
packed_from log k from = filter (packs_at log k) (range_with_len from (chunks_of log.copy k - from))

-- their packed bytes, one after the other
abbrev pub body_from : Logged → ℕ → ℕ → List ℕ
body_from log k from = flat_map (λ i. packed_chunk log.version (bytes_at log.copy k i)) (packed_from log k from)

-- x is the chunk that stands after n others in bytes of version 2
pub record IsNth (bytes : List ℕ) (n : ℕ) (x : List ℕ) : Type 0 where
  pub before : List (List ℕ)
  pub rest : List ℕ
  pub count : length before ≡ n
  pub fits : AllByRecursion (λ chunk. length chunk < 2 ^ 32) before
  pub small : length x < 2 ^ 32
  pub is : bytes ≡ flat_map (packed_chunk Two) before ++ (packed_chunk Two x ++ rest)
