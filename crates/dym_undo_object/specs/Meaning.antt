-- What an object over an undo log stands for, as its callers see it.
use Rattle.std.specs.Prelude.{◌≡◌, ℕ, ◌+◌, ◌≤◌, List, []}
use Rattle.std.specs.List.{AllByRecursion}
use Rattle.dym_base.specs.Heaps.{held}
use Rattle.dym_base.specs.Laws.{IsWellSized}
use Rattle.dym_base.specs.Objects.{LogEntry, ObjectState, ObjectAnswer, empty_heap, object_step}
use Rattle.dym_base.specs.Origins.{Origin}
use Rattle.dym_base.specs.RunLaws.{IsLogList, FoundLive}
use Rattle.dym_base.specs.declared.command.Command.{Command}
use Rattle.dym_base.specs.declared.command.Version.{Version}
use Rattle.dym_heap.specs.Meaning.{HeapMeaning, IsSound}
use Rattle.dym_undo.specs.UndoLogs.{UndoMeaning, Belongs}

-- an object: its heap, its kept logs as whole copies, oldest first, and how many commands it ran
pub record UndoObjectMeaning : Type 0 where
  pub heap : HeapMeaning
  pub logs : List LogEntry
  pub ran : ℕ

-- an object that was opened: of a version and a quota, with an empty heap, no log and no command run. Its segments are of this
-- origin
abbrev pub opened_object : Version → ℕ → Origin → UndoObjectMeaning
opened_object version quota segments = record {
  heap = record { version = version; quota = quota; state = empty_heap; held_ids = []; origin = segments; applied = 0 };
  logs = [];
  ran = 0;
}

-- the object as the definition of a step has it: the heap's chunks and the kept logs
abbrev pub state_of : UndoObjectMeaning → ObjectState
state_of o = record { heap = o.heap.state; logs = o.logs }

-- the step of an object by a command
abbrev pub step_by : UndoObjectMeaning → Command → ObjectAnswer
step_by o command = object_step o.heap.version o.heap.quota (state_of o) command

-- the object with one command more run, and else unchanged
abbrev pub counted : UndoObjectMeaning → UndoObjectMeaning
counted o = record o { ran = o.ran + 1 }

-- the object ran this command: it is that of the step, one command more was run, and of the heap no more changed than a step changes
pub record IsStep (old new : UndoObjectMeaning) (command : Command) : Type 0 where
  pub object : state_of new ≡ (step_by old command).object
  pub ran : new.ran ≡ old.ran + 1
  pub heap : new.heap ≡ record old.heap { state = new.heap.state; held_ids = new.heap.held_ids }

-- what is true of every object: its heap is sound; its logs are a list of logs, each within the quota, each chunk of a length of its
-- class, and what a log found touched is in its copy
pub record IsWhole (o : UndoObjectMeaning) : Type 0 where
  pub sound : IsSound o.heap
  pub list : IsLogList o.logs
  pub within : AllByRecursion (λ e. held e.copy ≤ o.heap.quota) o.logs
  pub sized : AllByRecursion (λ e. IsWellSized o.heap.version e.copy) o.logs
  pub found : AllByRecursion FoundLive o.logs

-- what is true of its parts: the undo log belongs to the heap besides
pub record IsUndoObject (heap : HeapMeaning) (undo : UndoMeaning) (ran : ℕ) : Type 0 where
  pub whole : IsWhole (record { heap = heap; logs = undo.logs; ran = ran })
  pub belongs : Belongs heap.version heap.quota heap.state undo
