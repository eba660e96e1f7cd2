-- What a table of copied chunks stands for.
use Rattle.std.proofs.Common.{◌≡◌, ℕ, Bool, true, false, T, IsTrue, ◌+◌, ◌≤◌, List, [], ◌∷◌, ◌++◌, map, length, take, drop, sum, refl, sym, ap, subst, ◌∙◌, arith, length-append}
use Rattle.std.specs.List.{sum_by}
use Rattle.std.specs.Ordering.{nat_cmp}
use Rattle.std.specs.FinMap.{entries, len, is_sorted, entries_sorted, entries-from_sorted, same_entries_map, len-entries}
use Rattle.std.proofs.lemmas.List.{length-map, length-drop, map-append, drop-append-le, take-append-le}
use Rattle.std.proofs.lemmas.List.Sums.{sum_by-append}
use Rattle.std.proofs.Math.Seq.{drop-append_seam, take-length}
use Rattle.dym_base.specs.Heaps.{Live}
use Rattle.dym_view.specs.Commits.{total_of}
use Rattle.dym_view.specs.Copies.{entry_at, entries_of, copy_of, AreWithin, IsTable, IsWhole}
use Rattle.dym_view.specs.declared.chunk_copies.ChunkRange.{ChunkRange}
use Rattle.dym_view.specs.declared.chunk_copies.ChunkCopies.{ChunkCopies}

abbrev pub bytes_sum : ℕ × List ℕ → ℕ
bytes_sum e = sum e.1

pub holds : (b : Bool) → IsTrue b → T b
holds true h = tt
holds false h = absurd (cc (h))

pub is_true : (b : Bool) → T b → IsTrue b
is_true true h = refl
is_true false h = absurd h

-- the chunks of the map are those that were copied
pub entries_are : (c : ChunkCopies) → IsWhole c → entries (copy_of c) ≡ entries_of c
entries_are c whole = entries-from_sorted nat_cmp (entries_of c) (holds _ whole.sorted)

pub count_is : (c : ChunkCopies) → IsWhole c → length c.chunk_ranges.items ≡ len (copy_of c)
count_is c whole = sym (len-entries (copy_of c) ∙ (ap length (entries_are c whole) ∙ length-map c.chunk_ranges.items (entry_at c.bytes.items)))

pub total_is : (c : ChunkCopies) → IsWhole c → c.total ≡ total_of (copy_of c)
total_is c whole = whole.table.total ∙ ap (sum_by bytes_sum) (sym (entries_are c whole))

-- as those of a map their numbers rise
pub sorted : (c : ChunkCopies) (live : Live) → entries_of c ≡ entries live → IsTrue (is_sorted nat_cmp (entries_of c))
sorted c live same = subst (λ es. IsTrue (is_sorted nat_cmp es)) (sym same) (is_true _ (entries_sorted live))

-- a table of all chunks of a map stands for it
pub stands_for : (c : ChunkCopies) (live : Live) → entries_of c ≡ entries live → copy_of c ≡ live
stands_for c live same =
    same_entries_map (copy_of c) live (entries-from_sorted nat_cmp (entries_of c) (holds _ (sorted c live same)) ∙ same)

-- the part of a list that was longer than it reaches
kept : (at len : ℕ) (bytes more : List ℕ) → at + len ≤ length bytes → take len (drop at (bytes ++ more)) ≡ take len (drop at bytes)
kept at len bytes more within =
    let rest : len ≤ length (drop at bytes) = omega (arith, length-drop at bytes) in
    ap (take len) (drop-append-le at bytes more (omega arith)) ∙ take-append-le len (drop at bytes) more rest

-- and the part that came
come : (bytes more : List ℕ) → take (length more) (drop (length bytes) (bytes ++ more)) ≡ more
come bytes more = ap (take (length more)) (drop-append_seam bytes more) ∙ take-length more

all_kept : (chunk_ranges : List ChunkRange) (bytes more : List ℕ) → AreWithin (length bytes) chunk_ranges
    → map (entry_at (bytes ++ more)) chunk_ranges ≡ map (entry_at bytes) chunk_ranges
all_kept [] bytes more within = refl
all_kept (s ∷ chunk_ranges) bytes more within = λ i. (s.number, kept s.at s.len bytes more within.0 i) ∷ all_kept chunk_ranges bytes more within.1 i

within_more : (n m : ℕ) (chunk_ranges : List ChunkRange) → n ≤ m → AreWithin n chunk_ranges → AreWithin m chunk_ranges
within_more n m [] le within = tt
within_more n m (s ∷ chunk_ranges) le within = (omega (arith, within.0), within_more n m chunk_ranges le within.1)

within_added : (n : ℕ) (chunk_ranges : List ChunkRange) (s : ChunkRange) → AreWithin n chunk_ranges → s.at + s.len ≤ n → AreWithin n (chunk_ranges ++ s ∷ [])
within_added n [] s within last = (last, tt)
within_added n (t ∷ chunk_ranges) s within last = (within.0, within_added n chunk_ranges s within.1 last)

module _ (old new : ChunkCopies) (number : ℕ) (more : List ℕ)
    (chunk_ranges : new.chunk_ranges.items ≡ old.chunk_ranges.items ++ record { number = number; at = length old.bytes.items; len = length more } ∷ [])
    (bytes : new.bytes.items ≡ old.bytes.items ++ more) (table : IsTable old) where
  -- one chunk more stands in the table
  pub one_more : entries_of new ≡ entries_of old ++ (number, more) ∷ []
  one_more =
      let s : ChunkRange = record { number = number; at = length old.bytes.items; len = length more } in
      let f = entry_at (old.bytes.items ++ more) in
      (λ i. map (entry_at (bytes i)) (chunk_ranges i))
      ∙ map-append f old.chunk_ranges.items (s ∷ [])
      ∙ (λ i. all_kept old.chunk_ranges.items old.bytes.items more table.within i ++ (number, come old.bytes.items more i) ∷ [])

  -- and the table is one again
  pub table_more : new.total ≡ old.total + sum more → IsTable new
  table_more total =
      let long : length new.bytes.items ≡ length old.bytes.items + length more = ap length bytes ∙ length-append old.bytes.items more in
      record {
        within = subst (AreWithin (length new.bytes.items)) (sym chunk_ranges)
            (within_added (length new.bytes.items) old.chunk_ranges.items _
            (within_more (length old.bytes.items) (length new.bytes.items) old.chunk_ranges.items (omega (arith, long)) table.within) (omega (arith, long)));
        total = total ∙ ap (λ n. n + sum more) table.total ∙ sums ∙ ap (sum_by bytes_sum) (sym one_more);
      }
    where
      sums : sum_by bytes_sum (entries_of old) + sum more ≡ sum_by bytes_sum (entries_of old ++ (number, more) ∷ [])
      sums = let all = sum_by-append bytes_sum (entries_of old) ((number, more) ∷ []) in omega (arith, all)
