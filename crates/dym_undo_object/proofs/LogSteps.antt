-- A command about the logs of an object, over the object's parts.
use Rattle.std.proofs.Common.{◌≡◌, ℕ, ◌+◌, Result, Ok, Err, OnOk, OnErr, refl, ap}
use Rattle.dym_base.specs.HeapStep.{heap_step}
use Rattle.dym_base.specs.Objects.{log}
use Rattle.dym_base.specs.declared.command.Kind.{Kind}
use Rattle.dym_base.specs.declared.command.Kind.TheVariants.{Full, Inc}
use Rattle.dym_heap.specs.Meaning.{HeapMeaning, IsSound}
use Rattle.dym_undo.specs.HeapUndo.{KeepsRest}
use Rattle.dym_undo.specs.UndoLogs.{UndoMeaning, object_of}
use Rattle.dym_undo.specs.declared.log_error.LogError.{LogError}
use Rattle.dym_undo_object.specs.Commands.{log_command}
use Rattle.dym_undo_object.specs.Meaning.{UndoObjectMeaning, IsStep, IsWhole}
use Rattle.dym_undo_object.proofs.Wholes.{heap_whole, log_whole}

module _ (heap new : HeapMeaning) (u new_u : UndoMeaning) (ran time : ℕ) (whole : IsWhole (record { heap = heap; logs = u.logs; ran = ran })) (sound : IsSound new)
    (rest : KeepsRest heap new) where
  abbrev before : UndoObjectMeaning
  before = record { heap = heap; logs = u.logs; ran = ran }

  abbrev after : UndoObjectMeaning
  after = record { heap = new; logs = new_u.logs; ran = ran + 1 }

  step : (want : Kind) → object_of new.state new_u ≡ (log heap.version (object_of heap.state u) time want).object → IsStep before after (log_command want time)
  step Full is = record { object = is; ran = refl; heap = rest }
  step Inc is = record { object = is; ran = refl; heap = rest }

  stays : (want : Kind) → (heap_step heap.version heap.quota heap.state (log_command want time)).heap ≡ heap.state
  stays Full = refl
  stays Inc = refl

  -- the object is whole where a log was taken, and where none was
  pub logged_whole : (want : Kind) (answer : Result Kind LogError)
      → OnOk answer (object_of new.state new_u ≡ (log heap.version (object_of heap.state u) time want).object) → OnErr answer ((new_u ≡ u) × (new ≡ heap)) → IsWhole after
  logged_whole want (Ok kind) object same = log_whole before after (log_command want time) (stays want) whole (step want object) sound
  logged_whole want (Err why) object same = heap_whole heap new u.logs new_u.logs ran (ran + 1) whole rest sound (ap (λ (x : UndoMeaning). x.logs) same.0)
