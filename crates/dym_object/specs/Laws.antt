-- What keeps an object whole, and what runs come to.
use Rattle.std.specs.Prelude.{◌≡◌, ◌+◌, List, [], ◌∷◌, ◌++◌}
use Rattle.dym_base.specs.BaseLogs.{base_logs_step}
use Rattle.dym_base.specs.HeapStep.{IsHeapCommand}
use Rattle.dym_base.specs.Objects.{object_start}
use Rattle.dym_base.specs.declared.command.Command.{Command}
use Rattle.dym_heap.specs.Meaning.{HeapMeaning, IsSound}
use Rattle.dym_heap.specs.Replies.{stepped}
use Rattle.dym_object.specs.Meaning.{ObjectMeaning, IsStep, IsWhole, HasRun, state_of, step_by}

-- the object with this heap, and one command more run
abbrev pub with_heap : ObjectMeaning → HeapMeaning → ObjectMeaning
with_heap o heap = record { heap = heap; chain = o.chain; ran = o.ran + 1 }

-- where the heap is that of the heap's own step, the object ran the command, and is whole
abbrev pub StepsKeepWhole : Type 0
StepsKeepWhole = (o : ObjectMeaning) (heap : HeapMeaning) (command : Command) → IsHeapCommand command → heap ≡ record (stepped o.heap command) { held_ids = heap.held_ids } → IsSound heap → IsWhole o → IsStep o (with_heap o heap) command × IsWhole (with_heap o heap)

-- an object at its start has run no command
abbrev pub RunsBegin : Type 0
RunsBegin = (o : ObjectMeaning) → state_of o ≡ object_start → o.chain.base_logs ≡ [] → HasRun [] o

-- where an object ran commands from its start, and then this one, it ran all of these
abbrev pub RunsGoOn : Type 0
RunsGoOn =
    (commands : List Command) (old new : ObjectMeaning) (command : Command) → HasRun commands old
    → state_of new ≡ (step_by old command).object → new.chain.base_logs ≡ base_logs_step old.chain.base_logs (state_of old) command
    → new.heap ≡ record old.heap { state = new.heap.state; held_ids = new.heap.held_ids } → HasRun (commands ++ command ∷ []) new
