-- The logs before the oldest kept one that later restores read.
use Rattle.std.specs.Prelude.{ℕ, ◌-◌, List, [], ◌∷◌, ◌++◌, take, drop, ◌==◌, Bool, if◌then◌else◌}
use Rattle.std.specs.List.{list_any}
use Rattle.dym_base.specs.Objects.{LogEntry, ObjectState, object_start, object_step, reached}
use Rattle.dym_base.specs.declared.command.Version.{Version}
use Rattle.dym_base.specs.declared.command.Command.{Command}
use Rattle.dym_base.specs.declared.command.Command.TheVariants.{Prune}

-- the depth of the oldest log, and 0 where there is none
abbrev pub oldest_depth : List LogEntry → ℕ
oldest_depth [] = 0
oldest_depth (e ∷ es) = e.depth

abbrev pub has_full : List LogEntry → Bool
has_full logs = list_any (λ e. e.depth == 0) logs

-- the logs from the last full one on
abbrev pub from_last_full : List LogEntry → List LogEntry
from_last_full [] = []
from_last_full (e ∷ es) = if has_full es then from_last_full es else e ∷ es

-- what stays below the logs that are left, of those that stood before them: nothing where the oldest that is left is full
abbrev pub left_base_logs : List LogEntry → List LogEntry → List LogEntry
left_base_logs before left = if oldest_depth left == 0 then [] else from_last_full before

-- what is below after so many of the kept logs were dropped
abbrev pub dropped_base_logs : List LogEntry → List LogEntry → ℕ → List LogEntry
dropped_base_logs base_logs logs dropped = if dropped == 0 then base_logs else left_base_logs (base_logs ++ take dropped logs) (drop dropped logs)

-- what is below after a command to an object. Only a prune that drops logs changes it
abbrev pub base_logs_step : List LogEntry → ObjectState → Command → List LogEntry
base_logs_step base_logs s (Prune g) = dropped_base_logs base_logs s.logs (reached g s.logs - 1)
base_logs_step base_logs s command = base_logs

-- what is below after commands
abbrev pub base_logs_after : Version → ℕ → ObjectState → List LogEntry → List Command → List LogEntry
base_logs_after v quota s base_logs [] = base_logs
base_logs_after v quota s base_logs (c ∷ cs) = base_logs_after v quota (object_step v quota s c).object (base_logs_step base_logs s c) cs

-- what is below at the end of a run of an object from its start
abbrev pub run_base_logs : Version → ℕ → List Command → List LogEntry
run_base_logs v quota commands = base_logs_after v quota object_start [] commands
