-- What is lent of one area of a heap.
use Rattle.std.specs.Prelude.{◌≡◌, ℕ, ◌+◌, ◌≤◌, ◌<◌, false, List, length, slice_index_or, Option, None, IsSome}
use Rattle.std.specs.FinMap.{get}
use Rattle.std.specs.FinSet.{contains}
use Rattle.dym_base.specs.Heaps.{Live, Touched}
use Rattle.dym_pack.specs.Areas.{area_at, chunk_number}
use Rattle.dym_heap.specs.SizedAreas.{SizedAreaMeaning, IsSizedArea}

-- p is area k of a map: its class, its ordinal, its chunks and which of them are touched
pub record IsAreaOf (live : Live) (touched : Touched) (k : ℕ) (p : SizedAreaMeaning) : Type 0 where
  pub sized_area : IsSizedArea p
  pub exponent : p.exponent ≡ (area_at live k).exponent
  pub ordinal : p.ordinal ≡ (area_at live k).ordinal
  pub chunk : (i : ℕ) → i < length p.chunks → slice_index_or p.chunks i None ≡ get live (chunk_number live k i)
  pub mark : (i : ℕ) → i < length p.chunks → slice_index_or p.touched i false ≡ contains touched (chunk_number live k i)

-- the chunks from `from` on are in use, `count` of them
abbrev pub IsUsedRun : List (Option (List ℕ)) → ℕ → ℕ → Type 0
IsUsedRun chunks from count = (i : ℕ) → from ≤ i → i < from + count → IsSome (slice_index_or chunks i None)
