-- What a heap stands for, as its callers see it.
use Rattle.std.specs.Prelude.{◌≡◌, ℕ, ◌≤◌, true, List, length, Some}
use Rattle.std.specs.Coded.{Coded, coded_ℕ, coded_list}
use Rattle.std.specs.FinMap as map
use Rattle.std.specs.FinSet as set
use Rattle.dym_base.specs.Numbers.{size, exponent_of, cls}
use Rattle.dym_base.specs.Heaps.{Live, Touched, HeapState, held}
use Rattle.dym_base.specs.Origins.{Origin}
use Rattle.dym_base.specs.declared.command.Version.{Version}
use Rattle.dym_base.specs.declared.command.Version.TheVariants.{One, Two}
use Rattle.dym_base.specs.declared.limits.TheConstants.{LEAST_EXPONENT, GREATEST_EXPONENT, MOST_QUOTA}
use Rattle.dym_region.specs.declared.segment.SegmentId.{SegmentId}

-- a heap: its version, its quota of segments, its live and touched chunks, the identities of the segments that it holds, where
-- its segments come from, and how many commands were applied to it
pub record HeapMeaning : Type 0 where
  pub version : Version
  pub quota : ℕ
  pub state : HeapState
  pub held_ids : List SegmentId
  pub origin : Origin
  pub applied : ℕ

-- how the two maps are stored
abbrev pub live_code : Coded Live
live_code = map.code coded_ℕ (coded_list coded_ℕ)

abbrev pub touched_code : Coded Touched
touched_code = set.code coded_ℕ

-- a chunk of class e may have n bytes
abbrev pub IsSizeOf : Version → ℕ → ℕ → Type 0
IsSizeOf One e n = n ≡ size e
IsSizeOf Two e n = cls n ≡ Some e

-- what is true of every heap
pub record IsSound (h : HeapMeaning) : Type 0 where
  pub quota_least : 1 ≤ h.quota
  pub quota_most : h.quota ≤ MOST_QUOTA
  -- the heap holds as many segments as its live chunks need, within its quota
  pub holds : length h.held_ids ≡ held h.state.live
  pub within : held h.state.live ≤ h.quota
  -- each live chunk is of a class, and has a length of that class
  pub least_class : (k : ℕ) → map.contains_key h.state.live k ≡ true → LEAST_EXPONENT ≤ exponent_of k
  pub most_class : (k : ℕ) → map.contains_key h.state.live k ≡ true → exponent_of k ≤ GREATEST_EXPONENT
  pub sized : (k : ℕ) (bytes : List ℕ) → map.get h.state.live k ≡ Some bytes → IsSizeOf h.version (exponent_of k) (length bytes)
  -- what is touched is live
  pub touched_live : (k : ℕ) → set.contains h.state.touched k ≡ true → map.contains_key h.state.live k ≡ true
