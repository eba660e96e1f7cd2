-- What an object stands for, as its callers see it.
use Rattle.std.specs.Prelude.{◌≡◌, ℕ, ◌+◌, ◌≤◌, List, [], None}
use Rattle.dym_base.specs.BaseLogs.{base_logs_step, run_base_logs}
use Rattle.dym_base.specs.Objects.{ObjectState, ObjectAnswer, empty_heap, object_step, run_end}
use Rattle.dym_base.specs.Origins.{Origin}
use Rattle.dym_base.specs.declared.command.Command.{Command}
use Rattle.dym_base.specs.declared.command.Version.{Version}
use Rattle.dym_heap.specs.Meaning.{HeapMeaning, IsSound}
use Rattle.dym_chain.specs.Chains.{ChainMeaning, Belongs, StandsForCopies, object_of}

-- an object: its heap, the chain of its logs, and how many commands it ran
pub record ObjectMeaning : Type 0 where
  pub heap : HeapMeaning
  pub chain : ChainMeaning
  pub ran : ℕ

-- an object that was opened: of a version and a quota, with an empty heap, no log and no command run. Its segments are of the one
-- origin, its records of the other
abbrev pub opened_object : Version → ℕ → Origin → Origin → ObjectMeaning
opened_object version quota segments records = record {
  heap = record { version = version; quota = quota; state = empty_heap; held_ids = []; origin = segments; applied = 0 };
  chain = record { base_logs = []; logs = []; records = []; made = 0; lifted = None; origin = records };
  ran = 0;
}

-- the object as the definition of a step has it: the heap's chunks and the kept logs
abbrev pub state_of : ObjectMeaning → ObjectState
state_of o = object_of o.heap.state o.chain

-- the step of an object by a command
abbrev pub step_by : ObjectMeaning → Command → ObjectAnswer
step_by o command = object_step o.heap.version o.heap.quota (state_of o) command

-- the object with one command more run, and else unchanged
abbrev pub counted : ObjectMeaning → ObjectMeaning
counted o = record o { ran = o.ran + 1 }

-- the object ran this command: it is that of the step, below its kept logs stand those that the step leaves there, one command more
-- was run, and of the heap and the chain no more changed than a step changes
pub record IsStep (old new : ObjectMeaning) (command : Command) : Type 0 where
  pub object : state_of new ≡ (step_by old command).object
  pub base_logs : new.chain.base_logs ≡ base_logs_step old.chain.base_logs (state_of old) command
  pub ran : new.ran ≡ old.ran + 1
  pub heap : new.heap ≡ record old.heap { state = new.heap.state; held_ids = new.heap.held_ids }
  pub origin : new.chain.origin ≡ old.chain.origin

-- what is true of every object: its heap is sound, the chain belongs to it and stands for the copies of its logs, none of its
-- records is out, and no more records were made than commands were run
pub record IsWhole (o : ObjectMeaning) : Type 0 where
  pub sound : IsSound o.heap
  pub belongs : Belongs o.heap.version o.heap.quota o.heap.state o.chain
  pub stands : StandsForCopies o.chain
  pub idle : o.chain.lifted ≡ None
  pub counted : o.chain.made ≤ o.ran

-- what stays true of an object while one of its records may be out
pub record IsLent (o : ObjectMeaning) : Type 0 where
  pub sound : IsSound o.heap
  pub belongs : Belongs o.heap.version o.heap.quota o.heap.state o.chain
  pub stands : StandsForCopies o.chain
  pub counted : o.chain.made ≤ o.ran

-- the object is one that ran these commands from its start: its heap and its kept logs are those at the run's end, and so is what
-- stands below them
pub record HasRun (commands : List Command) (o : ObjectMeaning) : Type 0 where
  pub object : state_of o ≡ run_end o.heap.version o.heap.quota commands
  pub base_logs : o.chain.base_logs ≡ run_base_logs o.heap.version o.heap.quota commands
