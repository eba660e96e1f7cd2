-- A walk over the live chunks, from each to the next.
use Rattle.std.proofs.Common.{◌≡◌, ℕ, ◌+◌, ◌<◌, ◌≤◌, true, false, List, [], ◌∷◌, length, refl, ap, Option, Some, None, is_some, arith}
use Rattle.std.specs.FinMap.{get, contains_key, entries}
use Rattle.dym_base.specs.Heaps.{Live}
use Rattle.dym_base.specs.HeapStep.{key}
use Rattle.dym_base.specs.declared.handle.Handle.{Handle}
use Rattle.dym_heap.specs.Replies.{after_key, IsNextLive}
use Rattle.dym_report.specs.Entries.{entries_from}
use Rattle.dym_report.proofs.EntriesInOrder.{no_entries_from, next_entry_from}

-- the entries of the chunks after the last one
abbrev pub left_after : Live → Option Handle → List (ℕ × List ℕ)
left_after live last = entries_from (after_key last) (entries live)

is_none : (o : Option (List ℕ)) → is_some o ≡ false → o ≡ None
is_none None isnt = refl
is_none (Some bytes) isnt = absurd cc

is_there : (o : Option (List ℕ)) → is_some o ≡ true → (bytes : List ℕ) × (o ≡ Some bytes)
is_there None is = absurd cc
is_there (Some bytes) is = (bytes, refl)

-- a chunk that is live has bytes
pub bytes_of : (live : Live) (k : ℕ) → contains_key live k ≡ true → (bytes : List ℕ) × (get live k ≡ Some bytes)
bytes_of live k is = is_there (get live k) is

-- where there is no next one, no entry is left
pub walk_ends : (live : Live) (last : Option Handle) → ((k : ℕ) → after_key last ≤ k → contains_key live k ≡ false) → left_after live last ≡ []
walk_ends live last none = no_entries_from live (after_key last) (λ k le. is_none (get live k) (none k le))

-- else its entry is the first of those that are left
pub walk_goes : (live : Live) (last : Option Handle) (h : Handle) (bytes : List ℕ) → IsNextLive live (after_key last) (key h) → get live (key h) ≡ Some bytes
    → left_after live last ≡ (key h, bytes) ∷ left_after live (Some h)
walk_goes live last h bytes next is =
    next_entry_from live (after_key last) (key h) bytes next.at_least is (λ k le lt. is_none (get live k) (next.least k le lt))

-- each step leaves fewer
pub walk_shortens : (live : Live) (last : Option Handle) (h : Handle) → IsNextLive live (after_key last) (key h)
    → length (left_after live last) ≡ length (left_after live (Some h)) + 1
walk_shortens live last h next =
    let found = bytes_of live (key h) next.is_live in
    let goes : length (left_after live last) ≡ length ((key h, found.0) ∷ left_after live (Some h)) = ap length (walk_goes live last h found.0 next found.1) in
    omega (arith, goes)

pub walk_falls : (live : Live) (last : Option Handle) (h : Handle) → IsNextLive live (after_key last) (key h)
    → length (left_after live (Some h)) < length (left_after live last)
walk_falls live last h next = omega (arith, walk_shortens live last h next)
