-- What a heap lends to be packed, and what it has after a record was loaded.
use Rattle.std.specs.Prelude.{◌≡◌, ℕ, if◌then◌else◌, List, Option, None}
use Rattle.std.specs.FinMap.{get, contains_key}
use Rattle.dym_base.specs.Heaps.{Live}
use Rattle.dym_base.specs.Packed.{Logged}
use Rattle.dym_base.specs.StandsFor.{or_else, packed_by}
use Rattle.dym_pack.specs.Areas.{AreasMeaning, IsPackable}
use Rattle.dym_heap.specs.Meaning.{HeapMeaning, IsSound}

-- what a heap lends to be packed
abbrev pub areas_of : HeapMeaning → AreasMeaning
areas_of h = record { version = h.version; live = h.state.live; touched = h.state.touched }

-- every heap can be packed
abbrev pub HeapsArePackable : Type 0
HeapsArePackable = (h : HeapMeaning) → IsSound h → IsPackable (areas_of h)

-- a handle is live in the one just where it is live in the other
abbrev pub HaveOneSetOfHandles : Live → Live → Type 0
HaveOneSetOfHandles live other = (k : ℕ) → contains_key live k ≡ contains_key other k

-- the bytes of the chunk of number k after a log was loaded: where it is live and the log packs it, those that are packed
abbrev pub loaded_at : Logged → Live → ℕ → Option (List ℕ)
loaded_at log live k = if contains_key live k then or_else (packed_by log k) (get live k) else None

-- the live chunks after a log was loaded
abbrev pub IsLoaded : Logged → Live → Live → Type 0
IsLoaded log old new = (k : ℕ) → get new k ≡ loaded_at log old k
