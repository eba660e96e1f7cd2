-- What is published of an object, from its start and turn by turn.
use Rattle.std.proofs.Common.{◌≡◌, ℕ, ◌<◌, ◌≤◌, Bool, true, false, Option, None, Some, List, [], length, take, Result, Ok, Err, OnOk, option_map, refl, ap, sym, subst, ◌∙◌, arith}
use Rattle.std.proofs.lemmas.Bool.{false≢true}
use Rattle.std.specs.List.{AllByRecursion}
use Rattle.std.specs.Prelude.{IfSome, is_err, is_some}
use Rattle.dym_base.specs.Objects.{LogEntry, ObjectState, run_end}
use Rattle.dym_base.specs.declared.command.Command.{Command}
use Rattle.dym_base.specs.declared.command.Version.{Version}
use Rattle.dym_base.specs.declared.limits.TheConstants.{COUNT_LIMIT, MOST_COMMANDS}
use Rattle.dym_report.specs.declared.late_lines.ViewLine.{ViewLine}
use Rattle.dym_view.specs.Commits.{committed, oldest}
use Rattle.dym_view.specs.Histories.{Beginning, last_commit}
use Rattle.dym_wave.specs.Lines.{commit_view, view_of}
use Rattle.dym_wave.specs.Publications.{IsPublished, MayShow, MoreWhere, WasOldest, oldest_commit}
use Rattle.dym_wave.specs.Views.{shown_view}
use Rattle.dym_wave.proofs.Going.{goes_on, may_show}
use Rattle.dym_wave.proofs.Sights.{more_few, more_own}

module _ (v : Version) (quota : ℕ) (commands : List Command) where
  abbrev pub state_after : ℕ → ObjectState
  state_after n = run_end v quota (take n commands)

  -- what has run nothing has published nothing
  pub nothing_published : (n : ℕ) (short : Bool) (view : Option Beginning) → n ≡ 0 → IfSome view (λ (b : Beginning). b.commits ≡ [])
      → IfSome view (IsPublished v quota commands n short)
  nothing_published n short None none empty = tt
  nothing_published n short (Some b) none empty = record {
    own = subst (AllByRecursion (WasOldest v quota commands)) (sym empty) tt;
    few = omega (arith, ap length empty);
    shown = λ _. ap last_commit empty ∙ ap (λ m. oldest_commit (state_after m)) (sym none);
  }

  -- where a history is published, the log that is the oldest after more commands may come next
  pub may_come_next : (m n : ℕ) (s : ObjectState) (short : Bool) (view : Option Beginning) → m ≤ n → s ≡ state_after n → short ≡ false
      → IfSome view (IsPublished v quota commands m short) → IfSome view (λ (b : Beginning). MayShow (last_commit b.commits) (oldest_commit s))
  may_come_next m n s short None more is long published = tt
  may_come_next m n s short (Some b) more is long published =
      subst (λ l. MayShow l (oldest_commit s)) (sym (published.shown long))
      (subst (λ (t : ObjectState). MayShow (oldest_commit (state_after m)) (oldest_commit t)) (sym is)
      (may_show (oldest (state_after m).logs) (oldest (state_after n).logs) (goes_on v quota commands m n more)))

  -- a history has room for a commit more
  pub few_commits : (n : ℕ) (short : Bool) (view : Option Beginning) → n ≤ MOST_COMMANDS → IfSome view (IsPublished v quota commands n short)
      → IfSome view (λ (b : Beginning). length b.commits < COUNT_LIMIT)
  few_commits n short None few published = tt
  few_commits n short (Some b) few published = omega (arith, few, published.few)

  -- more commands were run, and what is the oldest log then was published, or there was no memory for it
  pub turned : (m n : ℕ) (s : ObjectState) (old_short short : Bool) (old new : Option Beginning) → m < n → s ≡ state_after n
      → IfSome old (IsPublished v quota commands m old_short) → MoreWhere (oldest_commit s) old new
      → (short ≡ false → IfSome new (λ (b : Beginning). last_commit b.commits ≡ oldest_commit s)) → IfSome new (IsPublished v quota commands n short)
  turned m n s old_short short None None more is published by shown = tt
  turned m n s old_short short None (Some c) more is published by shown = absurd by
  turned m n s old_short short (Some b) None more is published by shown = tt
  turned m n s old_short short (Some b) (Some c) more is published by shown = record {
    own = more_own (WasOldest v quota commands) (oldest_commit s) b c by (λ d at. (n, sym at ∙ ap oldest_commit is)) published.own;
    few = omega (arith, more_few (oldest_commit s) b c by, published.few, more);
    shown = λ long. shown long ∙ ap oldest_commit is;
  }

  -- commands were run, one found no memory, and nothing was published
  pub turned_short : (m n : ℕ) (old_short : Bool) (view : Option Beginning) → m ≤ n → IfSome view (IsPublished v quota commands m old_short)
      → IfSome view (IsPublished v quota commands n true)
  turned_short m n old_short None more published = tt
  turned_short m n old_short (Some b) more published = record {
    own = published.own;
    few = omega (arith, published.few, more);
    shown = λ long. absurd (false≢true (sym long));
  }

-- the commits of what is published show the oldest log, where memory was not wanting
pub published_shows : (v : Version) (quota : ℕ) (commands : List Command) (n : ℕ) (s : ObjectState) (short : Bool) (view : Option Beginning)
    → short ≡ false → s ≡ run_end v quota (take n commands) → IfSome view (IsPublished v quota commands n short)
    → IfSome view (λ (b : Beginning). last_commit b.commits ≡ oldest_commit s)
published_shows v quota commands n s short None long is published = tt
published_shows v quota commands n s short (Some b) long is published = published.shown long ∙ ap oldest_commit (sym is)

commit_views : (e : Option LogEntry) → option_map commit_view (option_map committed e) ≡ option_map view_of e
commit_views None = refl
commit_views (Some e) = refl

abbrev pub line_of : Option Beginning → Option (Option ViewLine)
line_of view = option_map (λ (b : Beginning). option_map commit_view (last_commit b.commits)) view

pub line_told : (view : Option Beginning) → is_some (line_of view) ≡ is_some view
line_told None = refl
line_told (Some b) = refl

-- the line of the last commit is that of the oldest log, where views are told
pub line_shown : (view : Option Beginning) (line : Option (Option ViewLine)) (s : ObjectState) → line ≡ line_of view
    → IfSome view (λ (b : Beginning). last_commit b.commits ≡ oldest_commit s) → line ≡ shown_view (is_some line) s
line_shown None line s is shows = subst (λ l. l ≡ shown_view (is_some l) s) (sym is) refl
line_shown (Some b) line s is shows =
    subst (λ l. l ≡ shown_view (is_some l) s) (sym is) (ap Some (ap (option_map commit_view) shows ∙ commit_views (oldest s.logs)))

-- what is ensured of an answer that isn't an error
pub unless_err : {T E P : Type 0} (r : Result T E) (b : Bool) → b ≡ is_err r → b ≡ false → OnOk r P → P
unless_err (Ok x) b is none p = p
unless_err (Err e) b is none p = absurd (false≢true (sym none ∙ is))
