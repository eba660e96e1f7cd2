-- What undoing a change makes of a heap.
use Rattle.std.specs.Prelude.{ℕ, List}
use Rattle.std.specs.FinMap as map
use Rattle.std.specs.FinSet as set
use Rattle.dym_base.specs.Heaps.{HeapState}

-- the chunk of number k is live with these bytes, and isn't touched
abbrev pub with_chunk_back : HeapState → ℕ → List ℕ → HeapState
with_chunk_back s k bytes = record { live = map.insert s.live k bytes; touched = set.remove s.touched k }

-- the chunk of number k isn't touched
abbrev pub without_touch : HeapState → ℕ → HeapState
without_touch s k = record { live = s.live; touched = set.remove s.touched k }
