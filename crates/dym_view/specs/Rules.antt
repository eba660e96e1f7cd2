-- The rules: of the book that keeps a history, and of what a viewer takes.
use Rattle.std.specs.Prelude.{ℕ, ◌≡◌, ◌==◌, ◌<◌, true, List, [], ◌∷◌, ◌++◌, length, fold, map as list_map, MatchBool, Option, None, Some, IsSomeAnd}
use mathlib.Core.List.{IsPrefix}
use mathlib.Core.Option.{some}
use lib.ListN.{get_elem?}
use Rattle.std.specs.List.{AllByRecursion}
use Rattle.std.specs.FinMap as map
use Rattle.logbook.specs.Pages.{Cell, cell, Step, View, Named, Nib, may_write, may_make}
use Rattle.dym_view.specs.Commits.{CommitMeaning}
use Rattle.dym_view.specs.Histories.{HistoryName, Beginning, IsHistory}

-- an entry of the book: a commit, and the key of the cell that the next entry brings home
abbrev pub Entry : Type 0
Entry = CommitMeaning × ℕ

-- what the first entry has in the place of a commit
abbrev pub no_commit : CommitMeaning
no_commit = record { time = 0; copy = map.empty }

-- the commits of a history: the first entry has none
abbrev pub commits_of : List Entry → List CommitMeaning
commits_of [] = []
commits_of (e ∷ es) = list_map (λ (x : Entry). x.0) es

-- the key of the cell that whoever adds the next entry has to bring home
abbrev pub next_key : List Entry → ℕ
next_key [] = 0
next_key (e ∷ []) = e.1
next_key (e ∷ f ∷ es) = next_key (f ∷ es)

abbrev pub IsHome : List Cell → ℕ → Type 0
IsHome cells key = (cell cells key).1 ≡ true

-- behind each entry but the last, another one was added, which brought its cell home
abbrev pub AreUsed : List Cell → List Entry → Type 0
AreUsed cells [] = Unit {0}
AreUsed cells (e ∷ []) = Unit {0}
AreUsed cells (e ∷ f ∷ es) = IsHome cells e.1 × AreUsed cells (f ∷ es)

-- the first word is how many entries there are, and the times rise. While a cell that an entry names isn't home, that entry is the last:
-- so whoever has the right to bring it home knows the whole book, and no one else adds to it
pub record IsBookOf (cells : List Cell) (entries : List Entry) : Type 0 where
  pub some : 0 < length cells
  pub word : cell cells 0 ≡ (length entries, true)
  pub rising : IsHistory (commits_of entries)
  pub used : AreUsed cells entries

-- the word of a history's length
abbrev pub head_of : HistoryName → Named
head_of h = record { tracked = true; key = 0; book = h }

-- what an end that adds to a book has: it has seen its first entry, and has the right to bring the cell of its last one home
pub record CanAdd (book : HistoryName) (entries : List Entry) (of : HistoryName) (right : Nib) : Type 0 where
  pub begun : 0 < length entries
  pub same : of ≡ book
  pub may : right.right ≡ may_write
  pub key : right.key ≡ next_key entries
  pub rising : IsHistory (commits_of entries)

-- a cell was added, and whoever did it may make its word
abbrev pub Claims : Step Entry → View Entry ℕ → ℕ → View Entry ℕ → Type 0
Claims s v found w = w.1.0.right ≡ may_make

-- the first entry was added, where there was none
abbrev pub Begins : Step Entry → View Entry ℕ → ℕ → View Entry ℕ → Type 0
Begins s v found w = (w.1.0 ≡ v.1.0) × MatchBool (found == s.old) (w.0 ≡ s.ask ∷ []) (Unit {0})

-- the entry was added to all that had been seen
abbrev pub Adds : Step Entry → View Entry ℕ → ℕ → View Entry ℕ → Type 0
Adds s v found w = w.0 ≡ v.0 ++ s.ask ∷ []

-- what some of the seats that read or write have seen is of the history that is published
abbrev pub AreOfPublished : Beginning → List (Option Beginning) → Type 0
AreOfPublished published views = (seat : ℕ) (seen : Beginning) → get_elem? views seat ≡ some (Some seen) → seen.history ≡ published.history

-- a seat takes what is published, which is of the history of what it saw before
abbrev pub Takes : Option Beginning → Beginning → Beginning → Option Beginning → Type 0
Takes before x y after = (after ≡ Some y) × ((seen : Beginning) → before ≡ Some seen → seen.history ≡ x.history)

-- a seat has seen this history
abbrev pub HasSeen : HistoryName → Option Beginning → Type 0
HasSeen history seen = IsSomeAnd seen (λ (b : Beginning). b.history ≡ history)

-- all that a seat has seen is known
abbrev pub Knows : Beginning → Option Beginning → Type 0
Knows known seen = IsSomeAnd seen (λ (b : Beginning). IsPrefix b.commits known.commits)

-- what is known after a look that found this beyond it
abbrev pub known_after : Beginning → Option Beginning → Beginning
known_after known None = known
known_after known (Some newer) = newer

-- what stands once all that waits was published
abbrev pub last_of : Beginning → List Beginning → Beginning
last_of shown waiting = fold (λ (before newer : Beginning). newer) shown waiting

-- all that waits is this beginning
abbrev pub AreThis : Beginning → List Beginning → Type 0
AreThis this waiting = AllByRecursion (λ (b : Beginning). b ≡ this) waiting

-- what is not yet published is of this history
abbrev pub AreOf : HistoryName → List Beginning → Type 0
AreOf history pending = AllByRecursion (λ (b : Beginning). b.history ≡ history) pending
