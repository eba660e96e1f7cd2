-- Where the areas of a log stand in its bytes.
use Rattle.std.specs.Prelude.{◌≡◌, ℕ, ◌+◌, List, ◌∷◌, ◌++◌, map, length, take}
use Rattle.std.specs.Int.{w32, w64, to_le_bytes}
use Rattle.std.specs.List.{flat_map, range_with_len}
use Rattle.std.specs.FinSet.{contains}
use Rattle.dym_base.specs.Heaps.{held}
use Rattle.dym_base.specs.Packed.{Logged, kind_byte, bitmap, touched_bits, packed_area}
use Rattle.dym_pack.specs.Areas.{AreaName, area_list, area_at, chunks_of, chunk_number, is_used_at}
use Rattle.dym_pack.specs.ParsedAreas.{OfLog, IsRecord}

-- the bytes before the areas
abbrev pub header : Logged → List ℕ
header log = kind_byte log.version log.kind ∷ to_le_bytes w64 log.time ++ to_le_bytes w32 (held log.copy)

-- the bytes of an area
abbrev pub area_bytes : Logged → AreaName → List ℕ
area_bytes log area = packed_area log area.exponent area.ordinal

-- the bytes before area k
unfoldable pub front : Logged → ℕ → List ℕ
front log k = header log ++ flat_map (area_bytes log) (take k (area_list log.copy))

-- where area k begins
abbrev pub start_of : Logged → ℕ → ℕ
start_of log k = length (front log k)

-- where each area begins, and where the last one ends
unfoldable pub starts_of : Logged → List ℕ
starts_of log = map (start_of log) (range_with_len 0 (held log.copy + 1))

-- the name of area k, as it stands before its bits
abbrev pub name_bytes : ℕ → ℕ → List ℕ
name_bytes e o = e ∷ to_le_bytes w32 o

-- the use bits of area k, and the touched bits after them
abbrev pub use_map : Logged → ℕ → List ℕ
use_map log k = bitmap (chunks_of log.copy k) (is_used_at log.copy k)

abbrev pub touched_map : Logged → ℕ → List ℕ
touched_map log k = touched_bits log.kind (chunks_of log.copy k) (λ i. contains log.found (chunk_number log.copy k i))

-- what stands before the packed chunks of area k
abbrev pub area_head : Logged → ℕ → List ℕ
area_head log k = name_bytes (area_at log.copy k).exponent (area_at log.copy k).ordinal ++ use_map log k ++ touched_map log k

-- the bytes are those of a log, and the starts are those of each log with these bytes
pub record IsRecordAt (bytes starts : List ℕ) : Type 0 where
  pub is : IsRecord bytes
  pub placed : OfLog bytes (λ log. starts ≡ starts_of log)
