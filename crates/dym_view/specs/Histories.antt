-- A history: commits with rising times, which only grows at its end.
use Rattle.std.specs.Prelude.{⊤, ℕ, ◌<◌, List, [], ◌∷◌, Option, None, Some, option_map}
use Rattle.std.specs.Option.{ForSome}
use Rattle.logbook.specs.Pages.{Book}
use Rattle.dym_view.specs.Commits.{CommitMeaning}

-- the name of a history, which it has from the start and keeps
abbrev pub HistoryName : Type 0
HistoryName = Book

-- a beginning of a history: which history, and its first commits
pub record Beginning : Type 0 where
  pub history : HistoryName
  pub commits : List CommitMeaning

abbrev pub FirstIsLater : CommitMeaning → List CommitMeaning → Type 0
FirstIsLater c [] = ⊤
FirstIsLater c (d ∷ cs) = c.time < d.time

-- the times rise
abbrev pub IsHistory : List CommitMeaning → Type 0
IsHistory [] = ⊤
IsHistory (c ∷ cs) = FirstIsLater c cs × IsHistory cs

abbrev pub last_commit : List CommitMeaning → Option CommitMeaning
last_commit [] = None
last_commit (c ∷ []) = Some c
last_commit (c ∷ d ∷ cs) = last_commit (d ∷ cs)

abbrev pub last_time : List CommitMeaning → Option ℕ
last_time commits = option_map (λ (c : CommitMeaning). c.time) (last_commit commits)

-- a commit of this time may come next
abbrev pub MayFollow : List CommitMeaning → ℕ → Type 0
MayFollow commits time = ForSome (last_time commits) (λ t. t < time)
