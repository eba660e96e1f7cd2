-- A heap that becomes as another one is.
use Rattle.std.specs.Prelude.{◌≡◌, ℕ, true}
use Rattle.std.specs.FinMap.{contains_key}
use Rattle.std.specs.FinSet as set
use Rattle.dym_base.specs.Heaps.{Live}
use Rattle.dym_heap.specs.Meaning.{HeapMeaning, IsSound}
use Rattle.dym_undo.specs.UndoLogs.{UndoMeaning, Belongs}

-- a heap of which nothing is touched, and its undo log
pub record IsKeptHeap (h : HeapMeaning) (u : UndoMeaning) : Type 0 where
  pub sound : IsSound h
  pub belongs : Belongs h.version h.quota h.state u
  pub untouched : h.state.touched ≡ set.empty

-- the live chunks of a map are live in another
abbrev pub IsAmong : Live → Live → Type 0
IsAmong a b = (k : ℕ) → contains_key a k ≡ true → contains_key b k ≡ true
