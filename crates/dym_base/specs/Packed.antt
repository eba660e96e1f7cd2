-- A log as packed bytes. Numbers of several bytes have their little end first.
use Rattle.std.specs.Prelude.{ℕ, ◌+◌, ◌*◌, ◌/◌, ◌^◌, max, Bool, ◌&&◌, nat_lt, if◌then◌else◌, List, [], ◌∷◌, ◌++◌, map, length, unwrap_or}
use Rattle.std.specs.Int.{w32, w64, to_le_bytes}
use Rattle.std.specs.List.{flat_map, filter, range_with_len}
use Rattle.std.specs.FinMap.{get, contains_key}
use Rattle.std.specs.FinSet.{contains}
use Rattle.dym_base.specs.Numbers.{per, number, classes}
use Rattle.dym_base.specs.Heaps.{Live, Touched, areas, held}
use Rattle.dym_base.specs.declared.command.Version.{Version}
use Rattle.dym_base.specs.declared.command.Version.TheVariants.{One, Two}
use Rattle.dym_base.specs.declared.command.Kind.{Kind}
use Rattle.dym_base.specs.declared.command.Kind.TheVariants.{Full, Inc}

-- the weight of a bit in its byte
abbrev pub weight : (ℕ → Bool) → ℕ → ℕ → ℕ
weight is_set k j = if is_set (8 * k + j) then 2 ^ j else 0

-- byte k of a bitmap: bit i stands in byte i / 8 at weight 2 ^ (i mod 8)
abbrev pub bitmap_byte : (ℕ → Bool) → ℕ → ℕ
bitmap_byte is_set k =
    weight is_set k 0 + weight is_set k 1 + weight is_set k 2 + weight is_set k 3
    + weight is_set k 4 + weight is_set k 5 + weight is_set k 6 + weight is_set k 7

-- the bitmap of n bits: n / 8 bytes, and at least one, with the bits from n on clear
unfoldable pub bitmap : ℕ → (ℕ → Bool) → List ℕ
bitmap n is_set = map (bitmap_byte (λ i. nat_lt i n && is_set i)) (range_with_len 0 (max 1 (n / 8)))

-- the byte that begins a record
abbrev pub kind_byte : Version → Kind → ℕ
kind_byte One Full = 0x46
kind_byte One Inc = 0x49
kind_byte Two Full = 0x66
kind_byte Two Inc = 0x69

-- a packed chunk: its bytes, and in version 2 its length before them
abbrev pub packed_chunk : Version → List ℕ → List ℕ
packed_chunk One bytes = bytes
packed_chunk Two bytes = to_le_bytes w32 (length bytes) ++ bytes

-- a log as a record packs it: the whole copy, and the handles that the log found touched
pub record Logged : Type 0 where
  pub version : Version
  pub kind : Kind
  pub time : ℕ
  pub copy : Live
  pub found : Touched

-- whether the log packs the chunk of number k: a full one each live chunk, an incremental one each touched chunk
abbrev pub packs_by : Kind → Live → Touched → ℕ → Bool
packs_by Full copy found k = contains_key copy k
packs_by Inc copy found k = contains found k

abbrev pub touched_bits : Kind → ℕ → (ℕ → Bool) → List ℕ
touched_bits Full n is_touched = []
touched_bits Inc n is_touched = bitmap n is_touched

-- area o of class e: its class, its ordinal, the bits of its chunks, and the chunks that the log packs
unfoldable pub packed_area : Logged → ℕ → ℕ → List ℕ
packed_area log e o =
    let k : ℕ → ℕ = λ i. number e (o * per e + i) in
    e ∷ to_le_bytes w32 o
    ++ bitmap (per e) (λ i. contains_key log.copy (k i))
    ++ touched_bits log.kind (per e) (λ i. contains log.found (k i))
    ++ flat_map (λ i. packed_chunk log.version (unwrap_or (get log.copy (k i)) []))
    (filter (λ i. packs_by log.kind log.copy log.found (k i)) (range_with_len 0 (per e)))

-- the areas of the copy, exponents rising, ordinals rising
unfoldable pub packed_class : Logged → ℕ → List ℕ
packed_class log e = flat_map (packed_area log e) (range_with_len 0 (areas log.copy e))

-- the bytes of the record of a log
unfoldable pub packed : Logged → List ℕ
packed log =
    kind_byte log.version log.kind ∷ to_le_bytes w64 log.time
    ++ to_le_bytes w32 (held log.copy)
    ++ flat_map (packed_class log) classes
