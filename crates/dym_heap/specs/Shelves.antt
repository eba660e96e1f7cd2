-- What a shelf of areas stands for, and what its calls do.
use Rattle.std.specs.Prelude.{◌≡◌, ℕ, ◌+◌, ◌/◌, ◌^◌, ◌≤◌, ◌<◌, Bool, true, List, length, sum, slice_index, slice_set, Option, None, Some, IsSome}
use Rattle.std.specs.FinMap.{get}
use Rattle.std.specs.FinSet.{contains}
use Rattle.dym_base.specs.Numbers.{per, rank, number, exponent_of, index_of, IsClass}
use Rattle.dym_base.specs.Heaps.{HeapState}
use Rattle.dym_base.specs.Origins.{Origin}
use Rattle.dym_base.specs.declared.command.Version.{Version}
use Rattle.dym_base.specs.declared.limits.TheConstants.{CLASSES, MOST_QUOTA}
use Rattle.dym_region.specs.declared.segment.SegmentId.{SegmentId}
use Rattle.dym_heap.specs.Meaning.{IsSizeOf}
use Rattle.dym_heap.specs.Chunks.{put}

-- a shelf: its version, its quota of segments, the identities of those that it holds, where its segments come from, how many areas
-- each of the twelve classes has, and its chunks
pub record ShelfMeaning : Type 0 where
  pub version : Version
  pub quota : ℕ
  pub held_ids : List SegmentId
  pub origin : Origin
  pub counts : List ℕ
  pub state : HeapState

-- how many areas class e has
abbrev pub count_of : ShelfMeaning → ℕ → ℕ
count_of s e = slice_index s.counts (rank e)

-- what is true of every shelf
pub record IsValidShelf (s : ShelfMeaning) : Type 0 where
  pub quota_least : 1 ≤ s.quota
  pub quota_most : s.quota ≤ MOST_QUOTA
  pub classes : length s.counts ≡ CLASSES
  pub holds : length s.held_ids ≡ sum s.counts
  pub within : length s.held_ids ≤ s.quota
  -- a live chunk lies in an area of its class, and has a length of that class
  pub class : (k : ℕ) → IsSome (get s.state.live k) → IsClass (exponent_of k)
  pub in_area : (k : ℕ) → IsSome (get s.state.live k) → index_of k / per (exponent_of k) < count_of s (exponent_of k)
  pub sized : (k : ℕ) (bytes : List ℕ) → get s.state.live k ≡ Some bytes → IsSizeOf s.version (exponent_of k) (length bytes)
  -- what is touched is live
  pub touched_live : (k : ℕ) → contains s.state.touched k ≡ true → IsSome (get s.state.live k)

-- the last area of class e, where it has one, has a live chunk
abbrev pub IsTrimmed : ShelfMeaning → ℕ → Type 0
IsTrimmed s e = (n : ℕ) → count_of s e ≡ n + 1 → (k : ℕ) × IsSome (get s.state.live k) × (exponent_of k ≡ e) × (index_of k / per e ≡ n)

-- what is true of a shelf between two commands: no class ends with an empty area
pub record IsTidy (s : ShelfMeaning) : Type 0 where
  pub valid_shelf : IsValidShelf s
  pub trimmed : (e : ℕ) → IsClass e → IsTrimmed s e

-- the shelf with this as the chunk of number k
abbrev pub with_put : ShelfMeaning → ℕ → Option (List ℕ) → Bool → ShelfMeaning
with_put s k chunk is_touched = record s { state = put s.state k (record { bytes = chunk; touched = is_touched }) }

-- the shelf with n areas of class e
abbrev pub with_count : ShelfMeaning → ℕ → ℕ → List SegmentId → ShelfMeaning
with_count s e n ids = record s { held_ids = ids; counts = slice_set s.counts (rank e) n }

-- i is the least index of class e whose chunk is free
pub record IsFirstFree (s : HeapState) (e i : ℕ) : Type 0 where
  pub small : i < 2 ^ 32
  pub free : get s.live (number e i) ≡ None
  pub least : (j : ℕ) → j < i → IsSome (get s.live (number e j))

-- class e lost its empty areas at the end
pub record Trims (old new : ShelfMeaning) (e : ℕ) : Type 0 where
  pub left : ℕ
  pub is : new ≡ with_count old e left new.held_ids
  pub trimmed : IsTrimmed new e

-- the version, the quota and the origin stay
pub record Keeps (old new : ShelfMeaning) : Type 0 where
  pub version : new.version ≡ old.version
  pub quota : new.quota ≡ old.quota
  pub origin : new.origin ≡ old.origin

-- i is the least index of class e from `from` on whose chunk is live
pub record IsNextUsed (s : HeapState) (e from i : ℕ) : Type 0 where
  pub at_least : from ≤ i
  pub used : IsSome (get s.live (number e i))
  pub least : (j : ℕ) → from ≤ j → j < i → get s.live (number e j) ≡ None

-- the chunk is live and has at least n bytes
abbrev pub FitsIn : Option (List ℕ) → ℕ → Type 0
FitsIn None n = ⊥
FitsIn (Some bytes) n = n ≤ length bytes

-- class e has an area, and no chunk of its last one is live
pub record EndsFree (s : ShelfMeaning) (e : ℕ) : Type 0 where
  pub some : 0 < count_of s e
  pub free : (k : ℕ) → exponent_of k ≡ e → index_of k / per e + 1 ≡ count_of s e → get s.state.live k ≡ None
