-- Live chunks that count as touched, though no call wrote them.
use Rattle.std.specs.Prelude.{ℕ, ◌+◌, max, min, ◌&&◌, ◌||◌, ◌==◌, Bool, [], length, unwrap_or, nat_lt}
use Rattle.std.specs.List.{filter}
use Rattle.std.specs.FinMap.{get, keys}
use Rattle.std.specs.FinSet.{from_list, insert, union}
use Rattle.dym_base.specs.Heaps.{Live, HeapState}
use Rattle.dym_base.specs.HeapStep.{key, handle_of}
use Rattle.dym_base.specs.declared.handle.Handle.{Handle}
use Rattle.dym_heap.specs.Addresses.{chunk_offset}
use Rattle.dym_heap.specs.Fetches.{ChunkMeaning}

-- every live chunk is touched
abbrev pub all_touched : HeapState → HeapState
all_touched st = record { live = st.live; touched = from_list (keys st.live) }

-- the chunk of number k is touched besides
abbrev pub with_touch : HeapState → ℕ → HeapState
with_touch st k = record { live = st.live; touched = insert st.touched k }

-- whether the live chunk of number k has a byte in the region from `from` up to `end`: the greater start is below the lesser end
abbrev pub has_byte_in : ℕ → Live → ℕ → ℕ → ℕ → Bool
has_byte_in quota live from end k =
    let start = chunk_offset quota (handle_of k) in
    nat_lt (max from start) (min end (start + length (unwrap_or (get live k) [])))

-- each of these chunks is touched besides
abbrev pub touched_in : ℕ → ℕ → ℕ → HeapState → HeapState
touched_in quota from end st = record { live = st.live; touched = union st.touched (from_list (filter (has_byte_in quota st.live from end) (keys st.live))) }

-- whether k is the number of this chunk, which is live and has a byte at its place `at`
abbrev pub is_hit : Live → Handle → ℕ → ℕ → Bool
is_hit live handle at k = k == key handle && nat_lt at (length (unwrap_or (get live k) []))

-- a chunk that is touched besides where the test says so
abbrev pub touched_besides : Bool → ChunkMeaning → ChunkMeaning
touched_besides is_met chunk = record { bytes = chunk.bytes; touched = chunk.touched || is_met }
