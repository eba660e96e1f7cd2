-- How a shelf keeps its areas: those of all classes in one list, class after class, and a mark for each that is full.
use Rattle.std.specs.Prelude.{◌≡◌, ℕ, ◌+◌, ◌-◌, ◌/◌, ◌%◌, ◌≤◌, ◌<◌, ◌&&◌, nat_le, nat_lt, Bool, true, false, if◌then◌else◌, List, [], map, length, slice_index, slice_index_or, None, IsSome, IsPermutation}
use Rattle.std.specs.List.{range_with_len}
use Rattle.dym_base.specs.Numbers.{per, rank, exponent_of, index_of}
use Rattle.dym_base.specs.Heaps.{HeapState}
use Rattle.dym_base.specs.declared.command.Version.{Version}
use Rattle.dym_base.specs.declared.command.Version.TheVariants.{One, Two}
use Rattle.dym_base.specs.declared.limits.TheConstants.{LEAST_EXPONENT, CLASSES, MOST_CHUNKS, MOST_QUOTA}
use Rattle.dym_bits.specs.Bits.{bit_in, IsSet, IsClear}
use Rattle.dym_region.specs.declared.segment.SegmentId.{SegmentId}
use Rattle.dym_base.specs.Origins.{Origin}
use Rattle.dym_quota.specs.Bound.{Binding, IsBoundTo}
use Rattle.dym_heap.specs.Chunks.{no_chunk, heap_of}
use Rattle.dym_heap.specs.Fetches.{ChunkMeaning, area_chunk}
use Rattle.dym_heap.specs.Shelves.{ShelfMeaning}
use Rattle.dym_heap.specs.SizedAreas.{SizedAreaMeaning, IsSizedArea}

-- the areas of class e stand from start (rank e) up to the next start, by their ordinals: where that of number k stands
abbrev pub place_of_number : List ℕ → ℕ → ℕ
place_of_number starts k = slice_index starts (rank (exponent_of k)) + index_of k / per (exponent_of k)

abbrev pub is_placed : List ℕ → ℕ → Bool
is_placed starts k = nat_le LEAST_EXPONENT (exponent_of k) && nat_lt (place_of_number starts k) (slice_index starts (rank (exponent_of k) + 1))

-- what a list has past its end
abbrev pub no_area : SizedAreaMeaning
no_area = record { version = One; exponent = 0; ordinal = 0; identity = record { region = 0; number = 0 }; chunks = []; touched = [] }

-- the chunk of number k
abbrev pub chunk_among : List ℕ → List SizedAreaMeaning → ℕ → ChunkMeaning
chunk_among starts sized_areas k =
    if is_placed starts k then area_chunk (slice_index_or sized_areas (place_of_number starts k) no_area) (index_of k % per (exponent_of k)) else no_chunk

-- the heap that the areas are
unfoldable pub heap_among : List ℕ → List SizedAreaMeaning → HeapState
heap_among starts sized_areas = heap_of (chunk_among starts sized_areas)

-- how many areas each class has
unfoldable pub counts_of : List ℕ → List ℕ
counts_of starts = map (λ c. slice_index starts (c + 1) - slice_index starts c) (range_with_len 0 CLASSES)

-- an area of class e, at its place in the class
pub record IsPlaced (v : Version) (e o : ℕ) (p : SizedAreaMeaning) : Type 0 where
  pub sized_area : IsSizedArea p
  pub version : p.version ≡ v
  pub exponent : p.exponent ≡ e
  pub ordinal : p.ordinal ≡ o

-- the bits of class c
abbrev pub marks_of_class : List (List Bool) → ℕ → List Bool
marks_of_class full c = slice_index_or full c []

-- each chunk of the area is in use
abbrev pub IsFullArea : SizedAreaMeaning → Type 0
IsFullArea p = (i : ℕ) → i < length p.chunks → IsSome (slice_index_or p.chunks i None)

-- a chunk of the area is free
abbrev pub HasFree : SizedAreaMeaning → Type 0
HasFree p = (i : ℕ) × (i < length p.chunks) × (slice_index_or p.chunks i None ≡ None)

-- a mark says whether the area is full
pub record IsMarked (mark : Bool) (p : SizedAreaMeaning) : Type 0 where
  pub full : mark ≡ true → IsFullArea p
  pub free : mark ≡ false → HasFree p

-- the thirteen starts, the areas and the marks belong together
pub record IsArranged (v : Version) (starts : List ℕ) (sized_areas : List SizedAreaMeaning) (full : List (List Bool)) : Type 0 where
  pub starts_len : length starts ≡ CLASSES + 1
  pub first : slice_index starts 0 ≡ 0
  pub rising : (c : ℕ) → c < CLASSES → slice_index starts c ≤ slice_index starts (c + 1)
  pub last : slice_index starts CLASSES ≡ length sized_areas
  pub placed : (c o : ℕ) (d : SizedAreaMeaning) → c < CLASSES → slice_index starts c + o < slice_index starts (c + 1)
      → IsPlaced v (c + LEAST_EXPONENT) o (slice_index_or sized_areas (slice_index starts c + o) d)
  pub full_len : length full ≡ CLASSES
  pub bits_len : (c : ℕ) → c < CLASSES → length (marks_of_class full c) ≡ MOST_CHUNKS
  pub marked : (c o : ℕ) (d : SizedAreaMeaning) → c < CLASSES → slice_index starts c + o < slice_index starts (c + 1)
      → IsMarked (bit_in (marks_of_class full c) o) (slice_index_or sized_areas (slice_index starts c + o) d)
  pub mark_within : (c o : ℕ) → c < CLASSES → IsSet (marks_of_class full c) o → slice_index starts c + o < slice_index starts (c + 1)

-- in version 2 there are tables of lengths for as many areas as the quota allows, and in version 1 none
abbrev pub HasTables : Version → ℕ → ℕ → ℕ → ℕ → Type 0
HasTables One quota areas spare room = spare ≡ 0
HasTables Two quota areas spare room = (spare + areas ≡ quota) × (quota ≤ room)

-- the segments that are held are those of the areas, in some order
abbrev pub Owns : List SegmentId → List SizedAreaMeaning → Type 0
Owns ids sized_areas = IsPermutation ids (map (λ (p : SizedAreaMeaning). p.identity) sized_areas)

-- each area is over the segment that it is bound to, where a supply binds areas to segments
abbrev pub AreBound : Binding → List SizedAreaMeaning → Type 0
AreBound binding sized_areas = (k : ℕ) (d : SizedAreaMeaning) → k < length sized_areas
    → IsBoundTo binding (rank (slice_index_or sized_areas k d).exponent) (slice_index_or sized_areas k d).ordinal (slice_index_or sized_areas k d).identity

-- the areas are over the segments that are held, and there is room for as many as the quota allows
pub record IsSupplied (v : Version) (quota : ℕ) (ids : List SegmentId) (sized_areas : List SizedAreaMeaning) (room spare spare_room : ℕ) : Type 0 where
  pub least : 1 ≤ quota
  pub most : quota ≤ MOST_QUOTA
  pub within : length sized_areas ≤ quota
  pub has_room : quota ≤ room
  pub tables : HasTables v quota (length sized_areas) spare spare_room
  pub owned : Owns ids sized_areas

-- a shelf, read from its starts and its areas
abbrev pub shelf_of : Version → ℕ → List SegmentId → Origin → List ℕ → List SizedAreaMeaning → ShelfMeaning
shelf_of v quota ids origin starts sized_areas = record { version = v; quota = quota; held_ids = ids; origin = origin; counts = counts_of starts; state = heap_among starts sized_areas }

-- what a shelf is made of: its version and quota, the segments that are held, the starts, the areas and the marks of those that
-- are full, room for areas, and how many tables of lengths are spare, with the room for them
pub record ShelfParts : Type 0 where
  pub version : Version
  pub quota : ℕ
  pub ids : List SegmentId
  pub starts : List ℕ
  pub sized_areas : List SizedAreaMeaning
  pub full : List (List Bool)
  pub room : ℕ
  pub spare : ℕ
  pub spare_room : ℕ

-- what a shelf keeps
pub record IsShelf (s : ShelfParts) : Type 0 where
  pub arranged : IsArranged s.version s.starts s.sized_areas s.full
  pub supplied : IsSupplied s.version s.quota s.ids s.sized_areas s.room s.spare s.spare_room

-- each start past class c is one higher
pub record Shifts (starts starts' : List ℕ) (c : ℕ) : Type 0 where
  pub len : length starts' ≡ length starts
  pub low : (d : ℕ) → d ≤ c → slice_index starts' d ≡ slice_index starts d
  pub high : (d : ℕ) → c < d → d < CLASSES + 1 → slice_index starts' d ≡ slice_index starts d + 1

-- each start past class c is one lower
pub record Unshifts (starts starts' : List ℕ) (c : ℕ) : Type 0 where
  pub len : length starts' ≡ length starts
  pub low : (d : ℕ) → d ≤ c → slice_index starts' d ≡ slice_index starts d
  pub high : (d : ℕ) → c < d → d < CLASSES + 1 → slice_index starts' d + 1 ≡ slice_index starts d

-- twelve bitmaps, none of which has a bit set
pub record AreClear (full : List (List Bool)) : Type 0 where
  pub classes : length full ≡ CLASSES
  pub long : (c : ℕ) → c < CLASSES → length (marks_of_class full c) ≡ MOST_CHUNKS
  pub clear : (c o : ℕ) → c < CLASSES → IsClear (marks_of_class full c) o
