-- What a search finds in a table of copied chunks.
use Rattle.std.proofs.Common.{◌≡◌, ℕ, ◌-◌, ◌<◌, ◌≤◌, List, length, take, drop, get_or, Some, None, Result, Ok, Err, MatchResult, sym, ap, subst, ◌∙◌, arith, ◌+◌, inl, inr}
use Rattle.std.specs.List.{HoldsAt}
use Rattle.std.specs.List.Sorted.{IsSearchInRange, IsBinarySearchResult, IsNonDecreasingBy}
use Rattle.std.specs.Ordering.{nat_cmp, ordering_index}
use Rattle.std.specs.FinMap.{get, find, get-from_sorted}
use Rattle.std.proofs.lemmas.Cmp.{ranked}
use Rattle.std.proofs.lemmas.List.{length-map, get_or-map}
use Rattle.std.proofs.lemmas.List.Sorted.{IsNonDecreasingBy-from_default}
use Rattle.std.proofs.lemmas.Bool.Decides.{nat_tests}
use Rattle.std.proofs.lemmas.Bool.{cases_lt}
use Rattle.dym_view.specs.Copies.{entry_at, entries_of, copy_of, IsWhole}
use Rattle.dym_view.specs.declared.chunk_copies.ChunkRange.{ChunkRange}
use Rattle.dym_view.specs.declared.chunk_copies.ChunkCopies.{ChunkCopies}
use Rattle.dym_view.proofs.Entries.{rising, rising_at, find_at, find_none}
use Rattle.dym_view.proofs.Tables.{holds}

abbrev pub no_spot : ChunkRange
no_spot = record { number = 0; at = 0; len = 0 }

module _ (c : ChunkCopies) (whole : IsWhole c) where
  -- the chunk in a place
  at_place : (i : ℕ) (d : ChunkRange) → i < length c.chunk_ranges.items
      → get_or (entries_of c) i (entry_at c.bytes.items d) ≡ entry_at c.bytes.items (get_or c.chunk_ranges.items i d)
  at_place i d lt = get_or-map (entry_at c.bytes.items) c.chunk_ranges.items i d (entry_at c.bytes.items d) lt

  as_many : length (entries_of c) ≡ length c.chunk_ranges.items
  as_many = length-map c.chunk_ranges.items (entry_at c.bytes.items)

  get_is : (n : ℕ) → get (copy_of c) n ≡ find nat_cmp n (entries_of c)
  get_is n = get-from_sorted nat_cmp (entries_of c) n (holds _ whole.sorted)

  -- the numbers don't fall
  numbers_rise : (i j : ℕ) (d : ChunkRange) → i ≤ j → j < length c.chunk_ranges.items
      → (get_or c.chunk_ranges.items i d).number ≤ (get_or c.chunk_ranges.items j d).number
  numbers_rise i j d le lt = elim (cases_lt i j) [
    | inl less ↦ (
        let up = rising_at (entries_of c) i j (entry_at c.bytes.items d) (rising (entries_of c) (holds _ whole.sorted)) less (omega (arith, as_many)) in
        omega (arith, up, ap (λ (e : ℕ × List ℕ). e.0) (at_place i d (omega arith)), ap (λ (e : ℕ × List ℕ). e.0) (at_place j d lt)))
    | inr ge ↦ (let same : i ≡ j = omega arith in omega (arith, ap (λ k. (get_or c.chunk_ranges.items k d).number) same))
  ]

  comparisons_rise : (n : ℕ) → IsNonDecreasingBy (λ (s : ChunkRange). ordering_index (nat_cmp s.number n)) c.chunk_ranges.items
  comparisons_rise n = IsNonDecreasingBy-from_default (λ (s : ChunkRange). ordering_index (nat_cmp s.number n)) c.chunk_ranges.items no_spot (λ i j le lt.
      let up = numbers_rise i j no_spot le lt in grind (arith, nat_tests))

  -- the chunk of a number, by its place
  pub found_at : (n i : ℕ) (d : ChunkRange) → i < length c.chunk_ranges.items → (get_or c.chunk_ranges.items i d).number ≡ n
      → get (copy_of c) n ≡ Some (take (get_or c.chunk_ranges.items i d).len (drop (get_or c.chunk_ranges.items i d).at c.bytes.items))
  found_at n i d lt is =
      let there = at_place i d lt in
      get_is n
      ∙ ap (λ k. find nat_cmp k (entries_of c)) (sym (ap (λ (e : ℕ × List ℕ). e.0) there ∙ is))
      ∙ find_at (entries_of c) i (entry_at c.bytes.items d) (rising (entries_of c) (holds _ whole.sorted)) (omega (arith, as_many))
      ∙ ap (λ (e : ℕ × List ℕ). Some e.1) there

  -- a search finds the place of a number's chunk, or there is none
  pub searched : (n : ℕ) (r : Result ℕ ℕ) → IsSearchInRange r (length c.chunk_ranges.items)
      → IsBinarySearchResult (λ (s : ChunkRange). nat_cmp s.number n) c.chunk_ranges.items r
      → MatchResult r (λ i. (i < length c.chunk_ranges.items) × HoldsAt (λ (s : ChunkRange). s.number ≡ n) c.chunk_ranges.items i) (λ i. get (copy_of c) n ≡ None)
  searched n (Ok i) within equal = (within, λ d. ranked _ n _ (sym (equal d)))
  searched n (Err i) within parted =
      let sides = parted (comparisons_rise n) in
      get_is n ∙ find_none n (entries_of c) (entry_at c.bytes.items no_spot) (λ j lt.
      let inside : j < length c.chunk_ranges.items = omega (arith, as_many) in
      let there = ap (λ (e : ℕ × List ℕ). e.0) (at_place j no_spot inside) in
      elim (cases_lt j i) [
        | inl less ↦ (let base_logs = ranked _ n _ (sym (sides.0 j no_spot (omega arith) less)) in grind (arith, there, base_logs))
        | inr ge ↦ (let past = ranked _ n _ (sym (sides.1 j no_spot ge inside)) in grind (arith, there, past))
      ])

-- the same of a list that is the table's spots, for the answer that came
module _ (c : ChunkCopies) (whole : IsWhole c) (n : ℕ) (items : List ChunkRange) (are : items ≡ c.chunk_ranges.items) (r : Result ℕ ℕ)
    (within : IsSearchInRange r (length items)) (by_key : IsBinarySearchResult (λ (s : ChunkRange). nat_cmp s.number n) items r) where
  abbrev Place : ℕ → Type 0
  Place i = (i < length c.chunk_ranges.items) × HoldsAt (λ (s : ChunkRange). s.number ≡ n) c.chunk_ranges.items i

  abbrev NoPlace : ℕ → Type 0
  NoPlace i = get (copy_of c) n ≡ None

  all : MatchResult r Place NoPlace
  all =
      searched c whole n r (subst (λ (xs : List ChunkRange). IsSearchInRange r (length xs)) are within)
      (subst (λ (xs : List ChunkRange). IsBinarySearchResult (λ (s : ChunkRange). nat_cmp s.number n) xs r) are by_key)

  pub place_found : (i : ℕ) → r ≡ Ok i → (i < length c.chunk_ranges.items) × HoldsAt (λ (s : ChunkRange). s.number ≡ n) c.chunk_ranges.items i
  place_found i is = subst (λ (q : Result ℕ ℕ). MatchResult q Place NoPlace) is all

  pub no_place : (i : ℕ) → r ≡ Err i → get (copy_of c) n ≡ None
  no_place i is = subst (λ (q : Result ℕ ℕ). MatchResult q Place NoPlace) is all

-- a part of a list, by its two ends
pub part_is : (at len : ℕ) (xs ys : List ℕ) → ys ≡ xs → Some (take len (drop at xs)) ≡ Some (take (at + len - at) (drop at ys))
part_is at len xs ys same = let n : len ≡ at + len - at = omega arith in λ i. Some (take (n i) (drop at (sym same i)))
