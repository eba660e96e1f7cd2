-- What a work publishes of its object: the oldest kept log, at the end of each turn.
use Rattle.std.specs.Prelude.{⊤, ◌≡◌, ◌⊎◌, ℕ, ◌<◌, ◌≤◌, Bool, false, List, [], ◌∷◌, ◌++◌, length, take, Option, None, Some, option_map}
use Rattle.std.specs.List.{AllByRecursion}
use mathlib.Core.List.{IsPrefix}
use Rattle.dym_base.specs.Objects.{LogEntry, ObjectState, run_end}
use Rattle.dym_base.specs.declared.command.Command.{Command}
use Rattle.dym_base.specs.declared.command.Version.{Version}
use Rattle.dym_view.specs.Commits.{CommitMeaning, committed, oldest}
use Rattle.dym_view.specs.Histories.{Beginning, last_commit}

-- an object's oldest kept log, as it is committed
abbrev pub oldest_commit : ObjectState → Option CommitMeaning
oldest_commit s = option_map committed (oldest s.logs)

module _ (version : Version) (quota : ℕ) (commands : List Command) where
  -- the commit was the oldest kept log after some of the object's own commands
  abbrev pub WasOldest : CommitMeaning → Type 0
  WasOldest c = (n : ℕ) × (Some c ≡ oldest_commit (run_end version quota (take n commands)))

  -- what is published of an object that ran so many commands: each commit was its oldest log, there are no more commits than commands
  -- have run, and the last commit is the oldest kept log, unless memory was wanting
  pub record IsPublished (ran : ℕ) (short : Bool) (view : Beginning) : Type 0 where
    pub own : AllByRecursion WasOldest view.commits
    pub few : length view.commits ≤ ran
    pub shown : short ≡ false → last_commit view.commits ≡ oldest_commit (run_end version quota (take ran commands))

-- what comes after a log that was the oldest: that log, or a later one
abbrev pub GoesOn : Option LogEntry → Option LogEntry → Type 0
GoesOn None after = ⊤
GoesOn (Some e) None = ⊥
GoesOn (Some e) (Some f) = (f ≡ e) ⊎ (e.time < f.time)

-- the same of the last commit and the log that is the oldest now
abbrev pub MayShow : Option CommitMeaning → Option CommitMeaning → Type 0
MayShow None after = ⊤
MayShow (Some c) None = ⊥
MayShow (Some c) (Some d) = (d ≡ c) ⊎ (c.time < d.time)

-- what a publication leaves of a history: the history, or one with this commit more
abbrev pub MoreBy : Option CommitMeaning → Beginning → Beginning → Type 0
MoreBy c old new = (new ≡ old) ⊎ ((some : CommitMeaning) × (c ≡ Some some) × (new ≡ record { history = old.history; commits = old.commits ++ some ∷ [] }))

-- the same where there is a history
abbrev pub MoreWhere : Option CommitMeaning → Option Beginning → Option Beginning → Type 0
MoreWhere c None None = ⊤
MoreWhere c None (Some new) = ⊥
MoreWhere c (Some old) None = ⊥
MoreWhere c (Some old) (Some new) = MoreBy c old new

-- what is published keeps the name of its history, and only grows
abbrev pub ViewGrows : Option Beginning → Option Beginning → Type 0
ViewGrows None None = ⊤
ViewGrows None (Some new) = ⊥
ViewGrows (Some old) None = ⊥
ViewGrows (Some old) (Some new) = (new.history ≡ old.history) × IsPrefix old.commits new.commits
