-- A shelf that gets the area of a chunk.
use Rattle.std.specs.Prelude.{◌≡◌, ℕ, ◌+◌, ◌<◌, max, length}
use Rattle.dym_heap.specs.Shelves.{ShelfMeaning, count_of, with_count}

-- the quota allows the segments that class e lacks up to its area o
abbrev pub HasRoomFor : ShelfMeaning → ℕ → ℕ → Type 0
HasRoomFor s e o = length s.held_ids + o < s.quota + count_of s e

-- class e got areas up to its area o, and no chunk changed
abbrev pub ReachesArea : ShelfMeaning → ShelfMeaning → ℕ → ℕ → Type 0
ReachesArea old new e o = new ≡ with_count old e (max (count_of old e) (o + 1)) new.held_ids
