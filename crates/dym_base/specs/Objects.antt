-- An object: a heap, and the logs of it that are kept, each as a whole copy. One command to an object, and a run of many.
use Rattle.std.specs.Prelude.{ℕ, ◌+◌, ◌-◌, List, [], ◌∷◌, ◌++◌, length, take, drop, ◌==◌, nat_le, if◌then◌else◌, count_by, Option, None, Some}
use Rattle.std.specs.FinMap as map
use Rattle.std.specs.FinSet as set
use Rattle.dym_base.specs.declared.limits.TheConstants.{MOST_KEPT_LOGS, MOST_DEPTH}
use Rattle.dym_base.specs.Heaps.{Live, Touched, HeapState}
use Rattle.dym_base.specs.HeapStep.{HeapAnswer, heap_step}
use Rattle.dym_base.specs.Packed.{packed}
use Rattle.dym_base.specs.declared.command.Version.{Version}
use Rattle.dym_base.specs.declared.command.Kind.{Kind}
use Rattle.dym_base.specs.declared.command.Kind.TheVariants.{Full, Inc}
use Rattle.dym_base.specs.declared.command.Command.{Command}
use Rattle.dym_base.specs.declared.command.Command.TheVariants.{Log, Ilog, Restore, Prune, Logs}
use Rattle.dym_base.specs.declared.reply.Reply.{Reply}
use Rattle.dym_base.specs.declared.reply.Reply.TheVariants as reply
use Rattle.dym_base.specs.declared.reply.Refusal.TheVariants.{NotAfter, LogsFull, NoLog}

-- a log that is kept: its time, how many logs stand between it and the last full one, the whole heap at that time, and the
-- handles that the log found touched, which count as none where the log is full
pub record LogEntry : Type 0 where
  pub time : ℕ
  pub depth : ℕ
  pub copy : Live
  pub found : Touched

-- an object: its heap and its logs, oldest first, times rising
pub record ObjectState : Type 0 where
  pub heap : HeapState
  pub logs : List LogEntry

-- the object after a command, and the reply
pub record ObjectAnswer : Type 0 where
  pub object : ObjectState
  pub reply : Reply

-- an empty heap with no log
abbrev pub empty_heap : HeapState
empty_heap = record { live = map.empty; touched = set.empty }

abbrev pub object_start : ObjectState
object_start = record { heap = empty_heap; logs = [] }

abbrev pub newest : List LogEntry → Option LogEntry
newest [] = None
newest (e ∷ []) = Some e
newest (e ∷ f ∷ es) = newest (f ∷ es)

-- the log has this kind
abbrev pub kind_of : LogEntry → Kind
kind_of e = if e.depth == 0 then Full else Inc

-- the record of a log
abbrev pub record_of : Version → LogEntry → List ℕ
record_of v e = packed (record { version = v; kind = kind_of e; time = e.time; copy = e.copy; found = e.found })

-- the depth of a new log: 0 where a full one is wanted, where there is none before it, and where the newest has the greatest
-- depth
abbrev pub next_depth : Kind → Option LogEntry → ℕ
next_depth Full newest = 0
next_depth Inc None = 0
next_depth Inc (Some e) = if e.depth == MOST_DEPTH then 0 else e.depth + 1

abbrev pub found_touched : ℕ → Touched → Touched
found_touched depth touched = if depth == 0 then set.empty else touched

abbrev pub new_entry : ObjectState → ℕ → Kind → LogEntry
new_entry s t kind =
    let depth = next_depth kind (newest s.logs) in
    record { time = t; depth = depth; copy = s.heap.live; found = found_touched depth s.heap.touched }

abbrev pub unchanged : ObjectState → Reply → ObjectAnswer
unchanged s reply = record { object = s; reply = reply }

abbrev pub log_more : Version → ObjectState → ℕ → Kind → ObjectAnswer
log_more v s t kind =
    if length s.logs == MOST_KEPT_LOGS
    then unchanged s (reply.Refused LogsFull)
    else record {
      object = record {
        heap = record { live = s.heap.live; touched = set.empty };
        logs = s.logs ++ new_entry s t kind ∷ [];
      };
      reply = reply.Logged (kind_of (new_entry s t kind)) (length (record_of v (new_entry s t kind)));
    }

abbrev pub log_after : Version → ObjectState → ℕ → Kind → Option LogEntry → ObjectAnswer
log_after v s t kind None = log_more v s t kind
log_after v s t kind (Some e) =
    if nat_le t e.time then unchanged s (reply.Refused (NotAfter e.time)) else log_more v s t kind

-- logs the heap at t
abbrev pub log : Version → ObjectState → ℕ → Kind → ObjectAnswer
log v s t kind = log_after v s t kind (newest s.logs)

-- how many logs have a time at or before t. As times rise, they are the first ones
abbrev pub reached : ℕ → List LogEntry → ℕ
reached t logs = count_by (λ e. nat_le e.time t) logs

abbrev pub restore_to : ObjectState → List LogEntry → Option LogEntry → ObjectAnswer
restore_to s logs None = unchanged s (reply.Refused NoLog)
restore_to s logs (Some e) = record {
  object = record { heap = record { live = e.copy; touched = set.empty }; logs = logs };
  reply = reply.At e.time;
}

-- restores the last log at or before t; the later ones leave
abbrev pub restore : ObjectState → ℕ → ObjectAnswer
restore s t = let logs = take (reached t s.logs) s.logs in restore_to s logs (newest logs)

-- drops the logs before the last one at or before g
abbrev pub prune : ObjectState → ℕ → ObjectAnswer
prune s g =
    let dropped = reached g s.logs - 1 in
    record { object = record { heap = s.heap; logs = drop dropped s.logs }; reply = reply.Dropped dropped }

-- the records that the kept logs take: their number and the depth of the oldest
abbrev pub slots : List LogEntry → ℕ
slots [] = 0
slots (e ∷ es) = length (e ∷ es) + e.depth

abbrev pub of_heap : ObjectState → HeapAnswer → ObjectAnswer
of_heap s answer = record { object = record { heap = answer.heap; logs = s.logs }; reply = answer.reply }

-- one command to an object of a version, within a quota
abbrev pub object_step : Version → ℕ → ObjectState → Command → ObjectAnswer
object_step v quota s (Log t) = log v s t Full
object_step v quota s (Ilog t) = log v s t Inc
object_step v quota s (Restore t) = restore s t
object_step v quota s (Prune g) = prune s g
object_step v quota s Logs = unchanged s (reply.Slots (length s.logs) (slots s.logs))
object_step v quota s command = of_heap s (heap_step v quota s.heap command)

-- the replies to commands, in order, and the object after them
abbrev pub replies_from : Version → ℕ → ObjectState → List Command → List Reply
replies_from v quota s [] = []
replies_from v quota s (c ∷ cs) = (object_step v quota s c).reply ∷ replies_from v quota (object_step v quota s c).object cs

abbrev pub object_after : Version → ℕ → ObjectState → List Command → ObjectState
object_after v quota s [] = s
object_after v quota s (c ∷ cs) = object_after v quota (object_step v quota s c).object cs

-- a run of an object from its start
abbrev pub run_replies : Version → ℕ → List Command → List Reply
run_replies v quota commands = replies_from v quota object_start commands

abbrev pub run_end : Version → ℕ → List Command → ObjectState
run_end v quota commands = object_after v quota object_start commands
