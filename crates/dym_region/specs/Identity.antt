-- The identities of segments and of regions.
use Rattle.std.specs.Prelude.{◌≢◌, ℕ, zero, suc, ◌*◌, ◌<◌, List, [], ◌∷◌, ◌++◌, length, slice_index_or}
use denote.RawPtr.{Ptr, block_ptr}
use Rattle.dym_base.specs.declared.limits.TheConstants.{SEGMENT_BYTES}
use Rattle.dym_region.specs.declared.segment.SegmentId.{SegmentId}

-- the one identity of all segments that lie in vectors of their own
abbrev pub lone_id : SegmentId
lone_id = record { region = 0; number = 0 }

-- what is seen of a region: its identity, and how many segments it was cut into
pub record RegionShape : Type 0 where
  pub id : ℕ
  pub count : ℕ

-- the identities of a region's first `count` segments, in the order of their numbers
abbrev pub ids_of : ℕ → ℕ → List SegmentId
ids_of region zero = []
ids_of region (suc n) = ids_of region n ++ record { region = region; number = n } ∷ []

-- no identity stands in the list twice
abbrev pub AreDistinct : List SegmentId → Type 0
AreDistinct ids = (i j : ℕ) (d : SegmentId) → i < j → j < length ids → slice_index_or ids i d ≢ slice_index_or ids j d

-- where the bytes of a region's segment lie: in the region's block, one segment after the other
abbrev pub start_of : SegmentId → Ptr
start_of id = block_ptr id.region (id.number * SEGMENT_BYTES)
