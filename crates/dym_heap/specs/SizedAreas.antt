-- What a place stands for: an area with the lengths of its chunks.
use Rattle.std.specs.Prelude.{◌≡◌, ℕ, ◌≤◌, ◌<◌, Bool, true, false, if◌then◌else◌, List, map, length, take, replicate, slice_index, slice_index_or, slice_set, Option, None, Some, IsSome, is_some, MatchOption}
use Rattle.std.specs.List.{range_with_len}
use Rattle.dym_base.specs.Numbers.{size, per}
use Rattle.dym_base.specs.HeapStep.{splice}
use Rattle.dym_base.specs.declared.command.Version.{Version}
use Rattle.dym_base.specs.declared.command.Version.TheVariants.{One, Two}
use Rattle.dym_base.specs.declared.limits.TheConstants.{LEAST_EXPONENT, GREATEST_EXPONENT, SEGMENT_BYTES}
use Rattle.dym_bits.specs.Bits.{bit_in, IsSet}
use Rattle.dym_region.specs.declared.segment.SegmentId.{SegmentId}
use Rattle.dym_region.specs.Content.{part_of}
use Rattle.dym_area.specs.Area.{AreaMeaning, IsValidArea, chunk_start}
use Rattle.dym_heap.specs.Meaning.{IsSizeOf}
use Rattle.dym_heap.specs.Shelves.{FitsIn}

-- a place: its version, class and ordinal, the identity of its segment, and its chunks by their indices: the bytes of each that
-- is in use, and which are touched
pub record SizedAreaMeaning : Type 0 where
  pub version : Version
  pub exponent : ℕ
  pub ordinal : ℕ
  pub identity : SegmentId
  pub chunks : List (Option (List ℕ))
  pub touched : List Bool

-- the bytes of chunk i of class e: those of its class, or as many as were noted
abbrev pub len_of : ℕ → Option (List ℕ) → ℕ → ℕ
len_of e None i = size e
len_of e (Some lengths) i = slice_index lengths i

-- chunk i of an area, read from its use bits, the lengths and the bytes of its segment
abbrev pub chunk_in : AreaMeaning → Option (List ℕ) → ℕ → Option (List ℕ)
chunk_in area lengths i =
    if bit_in area.used i then Some (part_of area.content (chunk_start area i) (len_of area.exponent lengths i)) else None

-- all chunks of an area
unfoldable pub chunks_in : AreaMeaning → Option (List ℕ) → List (Option (List ℕ))
chunks_in area lengths = map (chunk_in area lengths) (range_with_len 0 (per area.exponent))

-- which chunks are touched, read from the dirty bits
unfoldable pub touched_in : AreaMeaning → List Bool
touched_in area = take (per area.exponent) area.dirty

-- lengths are kept in version 2 alone
abbrev pub version_by : Option (List ℕ) → Version
version_by None = One
version_by (Some lengths) = Two

abbrev pub place_of : AreaMeaning → Option (List ℕ) → SizedAreaMeaning
place_of area lengths = record {
  version = version_by lengths;
  exponent = area.exponent;
  ordinal = area.ordinal;
  identity = area.identity;
  chunks = chunks_in area lengths;
  touched = touched_in area;
}

-- each chunk in use has a length of its class
pub record IsMeasured (area : AreaMeaning) (lengths : Option (List ℕ)) : Type 0 where
  pub valid : IsValidArea area
  pub fits : (i : ℕ) → IsSet area.used i → IsSizeOf (version_by lengths) area.exponent (len_of area.exponent lengths i)

-- what is true of every place
pub record IsSizedArea (p : SizedAreaMeaning) : Type 0 where
  pub least : LEAST_EXPONENT ≤ p.exponent
  pub most : p.exponent ≤ GREATEST_EXPONENT
  pub whole : length p.chunks ≡ per p.exponent
  pub marks : length p.touched ≡ length p.chunks
  pub sized : (i : ℕ) (bytes : List ℕ) → slice_index_or p.chunks i None ≡ Some bytes → IsSizeOf p.version p.exponent (length bytes)
  pub touched_used : (i : ℕ) → slice_index_or p.touched i false ≡ true → IsSome (slice_index_or p.chunks i None)

-- the place with this in the place of chunk i
abbrev pub area_with_chunk : SizedAreaMeaning → ℕ → Option (List ℕ) → Bool → SizedAreaMeaning
area_with_chunk p i chunk is_touched = record p { chunks = slice_set p.chunks i chunk; touched = slice_set p.touched i is_touched }

-- i is the least free chunk of a list
pub record IsFreeIn (chunks : List (Option (List ℕ))) (i : ℕ) : Type 0 where
  pub within : i < length chunks
  pub free : slice_index_or chunks i None ≡ None
  pub least : (k : ℕ) → k < i → IsSome (slice_index_or chunks k None)

-- n is noted as the length of chunk i, where lengths are kept
abbrev pub with_length : Option (List ℕ) → ℕ → ℕ → Option (List ℕ)
with_length None i n = None
with_length (Some lengths) i n = Some (slice_set lengths i n)

-- i is the least index from `from` on of a chunk in use
pub record IsUsedFrom (chunks : List (Option (List ℕ))) (from i : ℕ) : Type 0 where
  pub at_least : from ≤ i
  pub used : IsSome (slice_index_or chunks i None)
  pub least : (k : ℕ) → from ≤ k → k < i → slice_index_or chunks k None ≡ None

-- at least one byte, and each is the first one
pub record IsRepeated (block : List ℕ) : Type 0 where
  pub some : 0 < length block
  pub short : length block < SEGMENT_BYTES
  pub same : block ≡ replicate (length block) (slice_index block 0)

-- the place with no chunk touched
abbrev pub clean : SizedAreaMeaning → SizedAreaMeaning
clean p = record p { touched = replicate (length p.touched) false }

-- the place with each chunk in use touched
abbrev pub used_touched : SizedAreaMeaning → SizedAreaMeaning
used_touched p = record p { touched = map is_some p.chunks }

-- chunk i of area k is in use, and has at least n bytes
abbrev pub FitsAt : List SizedAreaMeaning → ℕ → ℕ → ℕ → Type 0
FitsAt sized_areas k i n = (d : SizedAreaMeaning) → FitsIn (slice_index_or (slice_index_or sized_areas k d).chunks i None) n

-- the first n bytes of chunk j of area s were copied over those of chunk i of area t
pub record IsCopiedOver (old new : List SizedAreaMeaning) (s j t i n : ℕ) : Type 0 where
  pub sized_area : SizedAreaMeaning
  pub areas : new ≡ slice_set old t sized_area
  pub chunk : MatchOption (slice_index_or (slice_index_or old s sized_area).chunks j None) ⊥ (λ bytes.
      MatchOption (slice_index_or (slice_index_or old t sized_area).chunks i None) ⊥ (λ target.
      sized_area ≡ area_with_chunk (slice_index_or old t sized_area) i (Some (splice 0 (take n bytes) target)) true))
  pub valid : IsSizedArea sized_area
