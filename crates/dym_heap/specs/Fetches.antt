-- Chunks that want their bytes: the touched ones, while a heap is brought back to a log.
use Rattle.std.specs.Prelude.{◌≡◌, ℕ, ◌/◌, ◌%◌, Bool, true, false, not, ◌&&◌, ◌||◌, if◌then◌else◌, List, slice_index_or, Option, None, Some, is_some}
use Rattle.dym_base.specs.Numbers.{per, exponent_of, index_of}
use Rattle.dym_base.specs.Heaps.{Live, HeapState}
use Rattle.dym_base.specs.StandsFor.{or_else}
use Rattle.dym_pack.specs.Areas.{area_at}
pub use Rattle.dym_heap.specs.Chunks.{ChunkMeaning, heap_chunk}
use Rattle.dym_heap.specs.SizedAreas.{SizedAreaMeaning}

-- chunk i of an area
abbrev pub area_chunk : SizedAreaMeaning → ℕ → ChunkMeaning
area_chunk p i = record { bytes = slice_index_or p.chunks i None; touched = slice_index_or p.touched i false }

-- a live chunk that a log packs is touched after that log was marked
abbrev pub marked : Bool → ChunkMeaning → ChunkMeaning
marked is_packed chunk = record { bytes = chunk.bytes; touched = chunk.touched || (is_some chunk.bytes && is_packed) }

-- a touched chunk that a log packs has the packed bytes after that log was fetched, and is touched no more
abbrev pub fetched : Option (List ℕ) → ChunkMeaning → ChunkMeaning
fetched packed chunk = record { bytes = if chunk.touched then or_else packed chunk.bytes else chunk.bytes; touched = chunk.touched && not (is_some packed) }

-- the chunk is live and not touched
abbrev pub is_unmodified : ChunkMeaning → Bool
is_unmodified chunk = is_some chunk.bytes && not chunk.touched

-- a chunk after the heap got other handles, among which it is or isn't: it is touched unless it was unmodified, and keeps its bytes
-- where it isn't touched
pub record IsReshaped (is_used : Bool) (old new : ChunkMeaning) : Type 0 where
  pub used : is_some new.bytes ≡ is_used
  pub wanted : new.touched ≡ (is_used && not (is_unmodified old))
  pub kept : is_used ≡ true → new.touched ≡ false → new.bytes ≡ old.bytes

-- the chunks of area o of class e changed, each by its place in the area in this way, and no others
pub record IsChangedArea (old new : HeapState) (e o : ℕ) (Change : ℕ → ChunkMeaning → ChunkMeaning → Type 0) : Type 0 where
  pub here : (k : ℕ) → exponent_of k ≡ e → index_of k / per e ≡ o → Change (index_of k % per e) (heap_chunk old k) (heap_chunk new k)
  pub others : (k : ℕ) → (exponent_of k ≡ e → index_of k / per e ≡ o → ⊥) → heap_chunk new k ≡ heap_chunk old k

-- number q is that of a chunk of area k of a copy
abbrev pub IsOfArea : Live → ℕ → ℕ → Type 0
IsOfArea copy k q = (exponent_of q ≡ (area_at copy k).exponent) × (index_of q / per (area_at copy k).exponent ≡ (area_at copy k).ordinal)

-- the chunks of area k of a copy changed, each by its number in this way, and no others
pub record IsAreaChange (copy : Live) (k : ℕ) (old new : HeapState) (Change : ℕ → ChunkMeaning → ChunkMeaning → Type 0) : Type 0 where
  pub here : (q : ℕ) → IsOfArea copy k q → Change q (heap_chunk old q) (heap_chunk new q)
  pub others : (q : ℕ) → (IsOfArea copy k q → ⊥) → heap_chunk new q ≡ heap_chunk old q

-- the bytes that are packed for chunk i where its bit is set
abbrev pub packed_at : List Bool → (ℕ → List ℕ) → ℕ → Option (List ℕ)
packed_at bits f i = if slice_index_or bits i false then Some (f i) else None
