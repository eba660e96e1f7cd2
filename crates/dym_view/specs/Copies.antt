-- Chunks that were copied one after the other, as the map that they stand for.
use Rattle.std.specs.Prelude.{◌≡◌, ℕ, ◌+◌, ◌^◌, ◌<◌, ◌≤◌, List, map, sum, sum_by, length, take, drop, IsTrue}
use Rattle.std.specs.List.{AllByRecursion}
use Rattle.std.specs.Ordering.{nat_cmp}
use Rattle.std.specs.FinMap.{is_sorted, from_sorted}
use Rattle.dym_base.specs.Heaps.{Live}
use Rattle.dym_view.specs.declared.chunk_copies.ChunkRange.{ChunkRange}
use Rattle.dym_view.specs.declared.chunk_copies.ChunkCopies.{ChunkCopies}

-- the chunk that stands in a spot of these bytes
abbrev pub entry_at : List ℕ → ChunkRange → ℕ × List ℕ
entry_at bytes s = (s.number, take s.len (drop s.at bytes))

-- the chunks that were copied, each under its handle's number
abbrev pub entries_of : ChunkCopies → List (ℕ × List ℕ)
entries_of c = map (entry_at c.bytes.items) c.chunk_ranges.items

-- the map that they stand for
abbrev pub copy_of : ChunkCopies → Live
copy_of c = from_sorted (entries_of c)

-- each spot is within so many bytes
abbrev pub AreWithin : ℕ → List ChunkRange → Type 0
AreWithin n chunk_ranges = AllByRecursion (λ (s : ChunkRange). s.at + s.len ≤ n) chunk_ranges

-- each chunk stands within the bytes, and the sum of all is known
pub record IsTable (c : ChunkCopies) : Type 0 where
  pub within : AreWithin (length c.bytes.items) c.chunk_ranges.items
  pub total : c.total ≡ sum_by (λ (e : ℕ × List ℕ). sum e.1) (entries_of c)

-- a whole copy: the numbers rise, and there are fewer than a count of 32 bits holds
pub record IsWhole (c : ChunkCopies) : Type 0 where
  pub table : IsTable c
  pub sorted : IsTrue (is_sorted nat_cmp (entries_of c))
  pub few : length c.chunk_ranges.items < 2 ^ 32
