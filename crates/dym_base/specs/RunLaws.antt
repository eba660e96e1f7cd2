-- What holds along every run of an object, in the subject's own words. Each is the contract of a function of src/laws.rt.
use Rattle.std.specs.Prelude.{◌≡◌, ℕ, ◌+◌, ◌^◌, ◌<◌, ◌≤◌, ◌⊎◌, true, ⊤, List, [], ◌∷◌, length, take, drop}
use Rattle.std.specs.List.{AllByRecursion}
use Rattle.std.specs.FinSet.{contains}
use Rattle.dym_base.specs.Heaps.{held}
use Rattle.dym_base.specs.Objects.{LogEntry, ObjectState, reached, run_end}
use Rattle.dym_base.specs.Laws.{IsLive, IsWellSized, ResizesHandle, TouchesLive}
use Rattle.dym_base.specs.declared.limits.TheConstants.{MOST_KEPT_LOGS, MOST_DEPTH}
use Rattle.dym_base.specs.declared.command.Version.{Version}
use Rattle.dym_base.specs.declared.command.Command.{Command}

-- the heap is within its quota, and so is each log that is kept
abbrev pub IsWithinQuota : ℕ → ObjectState → Type 0
IsWithinQuota quota s = (held s.heap.live ≤ quota) × AllByRecursion (λ e. held e.copy ≤ quota) s.logs

abbrev pub RunsKeepQuota : Type 0
RunsKeepQuota = (v : Version) (quota : ℕ) (commands : List Command) → IsWithinQuota quota (run_end v quota commands)

-- each chunk's length is one of its class, in the heap and in each log
abbrev pub IsSized : Version → ObjectState → Type 0
IsSized v s = IsWellSized v s.heap.live × AllByRecursion (λ e. IsWellSized v e.copy) s.logs

abbrev pub RunsKeepSizes : Type 0
RunsKeepSizes = (v : Version) (quota : ℕ) (commands : List Command) → quota < 2 ^ 21 → AllByRecursion ResizesHandle commands → IsSized v (run_end v quota commands)

-- what a log found touched is in its copy
abbrev pub FoundLive : LogEntry → Type 0
FoundLive e = (k : ℕ) → contains e.found k ≡ true → IsLive e.copy k

abbrev pub TouchedIsLive : ObjectState → Type 0
TouchedIsLive s = TouchesLive s.heap × AllByRecursion FoundLive s.logs

abbrev pub RunsTouchLive : Type 0
RunsTouchLive = (v : Version) (quota : ℕ) (commands : List Command) → TouchedIsLive (run_end v quota commands)

-- log f may stand next after log e: it is later, and full or one deeper
abbrev pub Follows : LogEntry → LogEntry → Type 0
Follows e f = (e.time < f.time) × ((f.depth ≡ 0) ⊎ (f.depth ≡ e.depth + 1))

abbrev pub FirstFollows : LogEntry → List LogEntry → Type 0
FirstFollows e [] = ⊤
FirstFollows e (f ∷ fs) = Follows e f

-- each log may stand after the one before it
abbrev pub EachFollows : List LogEntry → Type 0
EachFollows [] = ⊤
EachFollows (e ∷ es) = FirstFollows e es × EachFollows es

-- no more logs are kept than may be, none deeper than may be, their times rising
abbrev pub IsLogList : List LogEntry → Type 0
IsLogList logs = (length logs ≤ MOST_KEPT_LOGS) × AllByRecursion (λ e. e.depth ≤ MOST_DEPTH) logs × EachFollows logs

abbrev pub RunsKeepLogs : Type 0
RunsKeepLogs = (v : Version) (quota : ℕ) (commands : List Command) → IsLogList (run_end v quota commands).logs

-- where times rise, the logs that are reached at a time are those at or before it, and the others are later
abbrev pub ReachedAreBefore : Type 0
ReachedAreBefore = (t : ℕ) (logs : List LogEntry) → EachFollows logs → AllByRecursion (λ e. e.time ≤ t) (take (reached t logs) logs) × AllByRecursion (λ e. t < e.time) (drop (reached t logs) logs)
