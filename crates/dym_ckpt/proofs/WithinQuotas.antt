-- What an object keeps is within its quota.
use Rattle.std.proofs.Common.{◌≡◌, ℕ, ◌-◌, ◌≤◌, List, [], ◌∷◌, ◌++◌, ◌==◌, take, drop, sym, ap, subst, arith}
use Rattle.std.specs.List.{AllByRecursion}
use Rattle.std.proofs.lemmas.Bool.{cond_both}
use Rattle.dym_base.specs.BaseLogs.{oldest_depth, has_full, from_last_full, left_base_logs, dropped_base_logs, base_logs_step, base_logs_after}
use Rattle.dym_base.specs.Heaps.{Live, held}
use Rattle.dym_base.specs.LawfulLists.{IsRecordOf}
use Rattle.dym_base.specs.Objects.{LogEntry, ObjectState, object_start, object_step, object_after, reached}
use Rattle.dym_base.specs.declared.command.Command.{Command}
use Rattle.dym_base.specs.declared.command.Command.TheVariants.{Malloc, Calloc, Realloc, Free, Write, Fill, Read, Link, Follow, Sum, Log, Ilog, Restore, Prune, Logs}
use Rattle.dym_base.specs.declared.command.Version.{Version}
use Rattle.dym_base.proofs.Heaps.{held_empty}
use Rattle.dym_base.proofs.Quota.{step_within}
use Rattle.dym_base.proofs.Runs.{all_take, copies_kept}
use Rattle.dym_heap.specs.Meaning.{HeapMeaning}
use Rattle.dym_chain.specs.Chains.{all_logs}
use Rattle.dym_chain.specs.Keeps.{bytes_of}
use Rattle.dym_chain.proofs.SaidLists.{InVersion, in_version}
use Rattle.dym_ckpt.specs.Laws.{StartIsWithin, StepsKeepWithin, RunsAreWithin, LoadedIsWithin, WithinMayBeSaved}
use Rattle.dym_ckpt.specs.SavedFiles.{AreWithinQuota}

-- ---- lists of logs

module _ (P : LogEntry → Type 0) where
  all_both : (es fs : List LogEntry) → AllByRecursion P es → AllByRecursion P fs → AllByRecursion P (es ++ fs)
  all_both [] fs first last = last
  all_both (e ∷ es) fs first last = (first.0, all_both es fs first.1 last)

  all_first : (es fs : List LogEntry) → AllByRecursion P (es ++ fs) → AllByRecursion P es
  all_first [] fs all = tt
  all_first (e ∷ es) fs all = (all.0, all_first es fs all.1)

  all_full : (es : List LogEntry) → AllByRecursion P es → AllByRecursion P (from_last_full es)
  all_full [] all = tt
  all_full (e ∷ es) all =
      cond_both (has_full es) (from_last_full es) (e ∷ es) (AllByRecursion P) (λ _. all_full es all.1) (λ _. all)

  all_left : (before left : List LogEntry) → AllByRecursion P before → AllByRecursion P (left_base_logs before left)
  all_left before left all =
      cond_both (oldest_depth left == 0) [] (from_last_full before) (AllByRecursion P) (λ _. tt) (λ _. all_full before all)

  all_dropped : (base logs : List LogEntry) (n : ℕ) → AllByRecursion P base → AllByRecursion P logs → AllByRecursion P (dropped_base_logs base logs n)
  all_dropped base logs n below kept =
      cond_both (n == 0) base (left_base_logs (base ++ take n logs) (drop n logs)) (AllByRecursion P) (λ _. below)
      (λ _. all_left (base ++ take n logs) (drop n logs) (all_both base (take n logs) below (all_take P n logs kept)))

  all_base : (base : List LogEntry) (s : ObjectState) (command : Command) → AllByRecursion P base → AllByRecursion P s.logs → AllByRecursion P (base_logs_step base s command)
  all_base base s (Prune g) below kept = all_dropped base s.logs (reached g s.logs - 1) below kept
  all_base base s (Malloc n) below kept = below
  all_base base s (Calloc m n) below kept = below
  all_base base s (Realloc h n) below kept = below
  all_base base s (Free h) below kept = below
  all_base base s (Write h at bytes) below kept = below
  all_base base s (Fill h at n byte) below kept = below
  all_base base s (Read h at n) below kept = below
  all_base base s (Link h at to) below kept = below
  all_base base s (Follow h at) below kept = below
  all_base base s (Sum h) below kept = below
  all_base base s (Log t) below kept = below
  all_base base s (Ilog t) below kept = below
  all_base base s (Restore t) below kept = below
  all_base base s Logs below kept = below

-- ---- an object

abbrev Within : ℕ → LogEntry → Type 0
Within quota e = held e.copy ≤ quota

pub start_is_within : StartIsWithin
start_is_within quota = record { heap = omega (arith, held_empty); logs = tt; base = tt }

pub steps_keep_within : StepsKeepWithin
steps_keep_within v quota s base command is =
    let kept = copies_kept (λ (live : Live). held live ≤ quota) v quota s command (step_within v quota s.heap command is.heap) (is.heap, is.logs) in
    record { heap = kept.0; logs = kept.1; base = all_base (Within quota) base s command is.base is.logs }

commands_keep_within : (v : Version) (quota : ℕ) (s : ObjectState) (base : List LogEntry) (commands : List Command) → AreWithinQuota quota s base → AreWithinQuota quota (object_after v quota s commands) (base_logs_after v quota s base commands)
commands_keep_within v quota s base [] is = is
commands_keep_within v quota s base (c ∷ cs) is =
    commands_keep_within v quota (object_step v quota s c).object (base_logs_step base s c) cs (steps_keep_within v quota s base c is)

pub runs_are_within : RunsAreWithin
runs_are_within v quota commands = commands_keep_within v quota object_start [] commands (start_is_within quota)

-- ---- a file

pub loaded_is_within : LoadedIsWithin
loaded_is_within bytes loaded is kept =
    let quota_is : loaded.heap.quota ≡ is.head.quota = ap (λ (h : HeapMeaning). h.quota) is.heap in
    let each : AllByRecursion (IsRecordOf is.head.version is.head.quota) (bytes_of loaded.chain.records)
    = subst (AllByRecursion (IsRecordOf is.head.version is.head.quota)) (sym is.are) is.file.read.each in
    let said : InVersion kept.version is.head.version is.head.quota (all_logs loaded.chain)
    = in_version kept.version is.head.version is.head.quota (all_logs loaded.chain) kept.recorded (subst (AllByRecursion (IsRecordOf is.head.version is.head.quota)) kept.records each) in
    let all : AllByRecursion (Within loaded.heap.quota) (all_logs loaded.chain)
    = subst (λ q. AllByRecursion (Within q) (all_logs loaded.chain)) (sym quota_is) said.within in
    record {
      heap = is.sound.within;
      logs = is.belongs.within;
      base = all_first (Within loaded.heap.quota) loaded.chain.base_logs loaded.chain.logs all;
    }

pub within_may_be_saved : WithinMayBeSaved
within_may_be_saved name quota v s c named least most kept belongs is = record {
  named = named;
  some_quota = least;
  most = most;
  kept = kept;
  are = belongs.records;
  within = all_both (Within quota) c.base_logs c.logs is.base belongs.within;
}
