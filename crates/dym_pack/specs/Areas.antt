-- The areas of a heap, as a record lists them.
use Rattle.std.specs.Prelude.{◌≡◌, ℕ, ◌+◌, ◌*◌, ◌≤◌, true, Bool, List, [], map, slice_index_or, unwrap_or}
use Rattle.std.specs.List.{flat_map, range_with_len}
use Rattle.std.specs.FinMap.{get, contains_key}
use Rattle.std.specs.FinSet.{contains}
use Rattle.std.specs.FinSet as set
use Rattle.dym_base.specs.Numbers.{per, number, classes}
use Rattle.dym_base.specs.Heaps.{Live, Touched, areas, held}
use Rattle.dym_base.specs.Laws.{IsWellSized}
use Rattle.dym_base.specs.Packed.{Logged}
use Rattle.dym_base.specs.declared.command.Version.{Version}
use Rattle.dym_base.specs.declared.command.Kind.{Kind}
use Rattle.dym_base.specs.declared.command.Kind.TheVariants.{Full, Inc}
use Rattle.dym_base.specs.declared.limits.TheConstants.{MOST_QUOTA}

-- what is lent to be packed: a version, the live chunks, and those of them that were touched
pub record AreasMeaning : Type 0 where
  pub version : Version
  pub live : Live
  pub touched : Touched

-- an area: its class and its ordinal
pub record AreaName : Type 0 where
  pub exponent : ℕ
  pub ordinal : ℕ

-- the areas of a map, exponents rising, ordinals rising
unfoldable pub area_list : Live → List AreaName
area_list live = flat_map (λ e. map (λ o. record { exponent = e; ordinal = o }) (range_with_len 0 (areas live e))) classes

-- area k
abbrev pub area_at : Live → ℕ → AreaName
area_at live k = slice_index_or (area_list live) k (record { exponent = 5; ordinal = 0 })

-- how many chunks area k has
abbrev pub chunks_of : Live → ℕ → ℕ
chunks_of live k = per (area_at live k).exponent

-- the number of the handle of chunk i of area k
abbrev pub chunk_number : Live → ℕ → ℕ → ℕ
chunk_number live k i =
    let area = area_at live k in
    number area.exponent (area.ordinal * per area.exponent + i)

-- whether chunk i of area k is live
abbrev pub is_used_at : Live → ℕ → ℕ → Bool
is_used_at live k i = contains_key live (chunk_number live k i)

-- the bytes of chunk i of area k
abbrev pub bytes_at : Live → ℕ → ℕ → List ℕ
bytes_at live k i = unwrap_or (get live (chunk_number live k i)) []

-- what can be packed: each chunk is of a class and has a length of it, what is touched is live, and there are at most as many
-- areas as the greatest quota
pub record IsPackable (m : AreasMeaning) : Type 0 where
  pub sized : IsWellSized m.version m.live
  pub touched_live : (k : ℕ) → contains m.touched k ≡ true → contains_key m.live k ≡ true
  pub few : held m.live ≤ MOST_QUOTA

-- what a record of a kind says of the touched chunks: a full one nothing
abbrev pub found_by : Kind → Touched → Touched
found_by Full touched = set.empty
found_by Inc touched = touched

-- the log that packing makes at a time
abbrev pub logged : AreasMeaning → Kind → ℕ → Logged
logged m kind time = record { version = m.version; kind = kind; time = time; copy = m.live; found = found_by kind m.touched }
