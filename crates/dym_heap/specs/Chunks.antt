-- Heaps as finite maps from the numbers of handles to chunks.
use Rattle.std.specs.Prelude.{ℕ, zero, suc, ◌*◌, ◌^◌, Bool, true, false, List, Option, None, Some}
use Rattle.std.specs.FinMap as map
use Rattle.std.specs.FinSet as set
use Rattle.dym_base.specs.Heaps.{Live, Touched, HeapState}
use Rattle.dym_base.specs.Objects.{empty_heap}

-- a chunk: its bytes, where it is live, and whether it is touched
pub record ChunkMeaning : Type 0 where
  pub bytes : Option (List ℕ)
  pub touched : Bool

-- the chunk of number k of a heap
abbrev pub heap_chunk : HeapState → ℕ → ChunkMeaning
heap_chunk s k = record { bytes = map.get s.live k; touched = set.contains s.touched k }

abbrev pub no_chunk : ChunkMeaning
no_chunk = record { bytes = None; touched = false }

abbrev pub with_bytes : Live → ℕ → Option (List ℕ) → Live
with_bytes live k None = map.remove live k
with_bytes live k (Some bytes) = map.insert live k bytes

abbrev pub with_mark : Touched → ℕ → Bool → Touched
with_mark touched k false = set.remove touched k
with_mark touched k true = set.insert touched k

-- the heap with this as the chunk of number k
abbrev pub put : HeapState → ℕ → ChunkMeaning → HeapState
put s k chunk = record { live = with_bytes s.live k chunk.bytes; touched = with_mark s.touched k chunk.touched }

-- the heap whose chunks below number n are those of f
unfoldable pub heap_below : ℕ → (ℕ → ChunkMeaning) → HeapState
heap_below zero f = empty_heap
heap_below (suc n) f = put (heap_below n f) n (f n)

-- the heap whose chunks are those of f: the numbers of handles are below 17 * 2 ^ 32
abbrev pub heap_of : (ℕ → ChunkMeaning) → HeapState
heap_of f = heap_below (17 * 2 ^ 32) f
