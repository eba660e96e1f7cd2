-- The packed chunks of one area, and what an area, a place and a shelf have after they were loaded.
use Rattle.std.specs.Prelude.{◌≡◌, ℕ, ◌*◌, ◌^◌, ◌≤◌, ◌<◌, ◌++◌, Bool, true, false, List, length, slice_index, slice_index_or, Option, None, Some}
use Rattle.std.specs.List.{All, flat_map, filter, range_with_len}
use Rattle.dym_base.specs.Numbers.{size, per}
use Rattle.dym_base.specs.Packed.{packed_chunk}
use Rattle.dym_base.specs.declared.command.Version.{Version}
use Rattle.dym_base.specs.declared.command.Version.TheVariants.{Two}
use Rattle.dym_bits.specs.Bits.{bit_in, IsSet, IsClear}
use Rattle.dym_region.specs.Content.{part_of}
use Rattle.dym_area.specs.Area.{AreaMeaning}
use Rattle.dym_heap.specs.Meaning.{IsSizeOf}
use Rattle.dym_heap.specs.Fetches.{ChunkMeaning}
use Rattle.dym_heap.specs.SizedAreas.{SizedAreaMeaning}

-- the body packs the chunks of an area of class e whose bits are set: of chunk i the bytes f i
pub record IsBodyOf (v : Version) (e : ℕ) (bits : List Bool) (body : List ℕ) (f : ℕ → List ℕ) : Type 0 where
  pub below : (i : ℕ) → IsSet bits i → i < per e
  pub sized : (i : ℕ) → IsSet bits i → IsSizeOf v e (length (f i))
  pub is : body ≡ flat_map (λ i. packed_chunk v (f i)) (filter (bit_in bits) (range_with_len 0 (per e)))

-- there are such bytes
abbrev pub IsBody : Version → ℕ → List Bool → List ℕ → Type 0
IsBody v e bits body = (f : ℕ → List ℕ) × IsBodyOf v e bits body f

-- the bytes begin with these chunks, each behind its length in four bytes, and then come the rest
pub record BeginsWithChunks (bytes : List ℕ) (chunks : List (List ℕ)) (rest : List ℕ) : Type 0 where
  pub is : bytes ≡ flat_map (packed_chunk Two) chunks ++ rest
  pub small : All (λ c. length c < 2 ^ 32) chunks

-- the area has these bytes where a bit is set, and the old ones elsewhere
pub record HoldsLoaded (old new : AreaMeaning) (bits : List Bool) (f : ℕ → List ℕ) : Type 0 where
  pub same : new ≡ record old { content = new.content }
  pub loaded : (i : ℕ) → IsSet bits i → part_of new.content (i * size old.exponent) (length (f i)) ≡ f i
  pub others : (i n : ℕ) → i < per old.exponent → n ≤ size old.exponent → IsClear bits i → part_of new.content (i * size old.exponent) n ≡ part_of old.content (i * size old.exponent) n

-- so has it of those chunks from `first` up to `end` whose bits are set
pub record IsLoadedRange (old new : AreaMeaning) (wanted : List Bool) (first end : ℕ) (f : ℕ → List ℕ) : Type 0 where
  pub same : new ≡ record old { content = new.content }
  pub loaded : (i : ℕ) → first ≤ i → i < end → IsSet wanted i → part_of new.content (i * size old.exponent) (length (f i)) ≡ f i
  pub others : (i n : ℕ) → i < per old.exponent → n ≤ size old.exponent → (first ≤ i → i < end → IsSet wanted i → ⊥) → part_of new.content (i * size old.exponent) n ≡ part_of old.content (i * size old.exponent) n

-- the table has their lengths where a bit is set, and the old ones elsewhere
pub record NotesLoaded (old new : List ℕ) (bits : List Bool) (f : ℕ → List ℕ) : Type 0 where
  pub noted : (i : ℕ) → IsSet bits i → slice_index new i ≡ length (f i)
  pub others : (i : ℕ) → IsClear bits i → slice_index new i ≡ slice_index old i

-- what a chunk is after these bytes were loaded into it, where it is packed
abbrev pub loaded_over : Bool → List ℕ → Option (List ℕ) → Option (List ℕ)
loaded_over is_packed bytes None = None
loaded_over true bytes (Some old) = Some bytes
loaded_over false bytes (Some old) = Some old

-- each chunk of the place is loaded
pub record IsLoadedSizedArea (old new : SizedAreaMeaning) (bits : List Bool) (f : ℕ → List ℕ) : Type 0 where
  pub same : new ≡ record old { chunks = new.chunks }
  pub chunk : (i : ℕ) → slice_index_or new.chunks i None ≡ loaded_over (bit_in bits i) (f i) (slice_index_or old.chunks i None)

-- chunk i is loaded
abbrev pub loaded_chunk : List Bool → (ℕ → List ℕ) → ℕ → ChunkMeaning → ChunkMeaning
loaded_chunk bits f i chunk = record chunk { bytes = loaded_over (bit_in bits i) (f i) chunk.bytes }
