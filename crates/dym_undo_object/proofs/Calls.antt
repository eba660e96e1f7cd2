-- What a call to the heap of an object leaves of the object, over the object's parts.
use Rattle.std.proofs.Common.{◌≡◌, ℕ, ◌+◌, ◌<◌, true, Result, Ok, Err, OnErr, IsSome, Some, List, length, refl, sym, ap, subst, ◌∙◌}
use Rattle.std.specs.FinMap.{get}
use Rattle.std.specs.FinSet.{contains}
use Rattle.dym_base.specs.HeapStep.{HeapAnswer, IsHeapCommand, key}
use Rattle.dym_base.specs.Objects.{LogEntry}
use Rattle.dym_base.specs.declared.command.Command.{Command}
use Rattle.dym_base.specs.declared.reply.Refusal.{Refusal}
use Rattle.dym_base.specs.declared.reply.Reply.{Reply}
use Rattle.dym_base.specs.declared.reply.Reply.TheVariants.{Done}
use Rattle.dym_heap.specs.Meaning.{HeapMeaning, IsSound}
use Rattle.dym_heap.specs.Replies.{step_of, stepped}
use Rattle.dym_heap.specs.Touches.{with_touch}
use Rattle.dym_undo.specs.UndoLogs.{UndoMeaning, Belongs}
use Rattle.dym_undo_object.specs.Meaning.{UndoObjectMeaning, IsStep, IsWhole, counted, step_by}
use Rattle.dym_base.specs.declared.handle.Handle.{Handle}
use Rattle.dym_undo_object.specs.Touches.{write_of_all}
use Rattle.dym_undo_object.proofs.OneTouched.{first_touched, touched_stays}
use Rattle.dym_undo_object.proofs.Steps.{object_is, reply_is, rest_stays, same_ids, unchanged_by}
use Rattle.dym_undo_object.proofs.Wholes.{heap_whole}

-- a refusal
refused_here : {T : Type 0} (r : Result T Refusal) (heap new : HeapMeaning) (logs new_logs : List LogEntry) (ran : ℕ) (old : UndoObjectMeaning)
    → record { heap = heap; logs = logs; ran = ran } ≡ old → new_logs ≡ logs → OnErr r (new ≡ heap)
    → OnErr r (record { heap = new; logs = new_logs; ran = ran + 1 } ≡ counted old)
refused_here (Ok x) heap new logs new_logs ran old view same kept = tt
refused_here (Err why) heap new logs new_logs ran old view same kept =
    (λ i. record { heap = kept i; logs = same i; ran = ran + 1 }) ∙ ap counted view

-- nothing changed
pub unchanged_here : {T : Type 0} (r : Result T Refusal) (heap : HeapMeaning) → OnErr r (heap ≡ heap)
unchanged_here (Ok x) heap = tt
unchanged_here (Err why) heap = refl

-- what a call ensures that runs a command to the heap of an object
pub record IsCalled {T : Type 0} (answer : Result T Refusal) (said : Reply) (old new : UndoObjectMeaning) (c : Command) : Type 0 where
  pub reply : said ≡ (step_by old c).reply
  pub step : IsStep old new c
  pub refused : OnErr answer (new ≡ counted old)
  pub whole : IsWhole new

-- a call of an object of these parts
module _ (heap : HeapMeaning) (logs : List LogEntry) (ran : ℕ) (old : UndoObjectMeaning) (view : record { heap = heap; logs = logs; ran = ran } ≡ old)
    (whole : IsWhole (record { heap = heap; logs = logs; ran = ran })) where
  pub called : {T : Type 0} → (answer : Result T Refusal) (said : Reply) (new : HeapMeaning) (new_logs : List LogEntry) (c : Command) → IsHeapCommand c
      → new ≡ record (stepped heap c) { held_ids = new.held_ids } → IsSound new
      → said ≡ (step_of heap c).reply → OnErr answer (new ≡ heap) → new_logs ≡ logs → IsCalled answer said old (record { heap = new; logs = new_logs; ran = ran + 1 }) c
  called answer said new new_logs c is after sound reply kept same = record {
    reply = subst (λ (o : UndoObjectMeaning). said ≡ (step_by o c).reply) view
        (reply ∙ reply_is heap.version heap.quota (record { heap = heap.state; logs = logs }) c is);
    step = subst (λ (o : UndoObjectMeaning). IsStep o (record { heap = new; logs = new_logs; ran = ran + 1 }) c) view (record {
      object = object_is heap new logs new_logs c is after same;
      ran = refl;
      heap = rest_stays heap new c after;
    });
    refused = refused_here answer heap new logs new_logs ran old view same kept;
    whole = heap_whole heap new logs new_logs ran (ran + 1) whole (rest_stays heap new c after) sound same;
  }

  -- one that leaves the segments as they are
  pub called_in_place : {T : Type 0} → (answer : Result T Refusal) (said : Reply) (new : HeapMeaning) (new_logs : List LogEntry) (c : Command) → IsHeapCommand c
      → new ≡ stepped heap c → IsSound new
      → said ≡ (step_of heap c).reply → OnErr answer (new ≡ heap) → new_logs ≡ logs → IsCalled answer said old (record { heap = new; logs = new_logs; ran = ran + 1 }) c
  called_in_place answer said new new_logs c is after sound reply kept same = called answer said new new_logs c is (same_ids heap new c after) sound reply kept same

  -- one that only looks
  pub looked : {T : Type 0} → (answer : Result T Refusal) (said : Reply) (c : Command) → IsHeapCommand c → heap ≡ record (stepped heap c) { held_ids = heap.held_ids }
      → said ≡ (step_of heap c).reply → IsCalled answer said old (record { heap = heap; logs = logs; ran = ran + 1 }) c
  looked answer said c is stays reply = called answer said heap logs c is stays whole.sound reply (unchanged_here answer heap) refl

-- a touch of a chunk that is touched
pub touched_here : {T : Type 0} (answer : Result T Refusal) (heap : HeapMeaning) (logs : List LogEntry) (ran : ℕ)
    (old : UndoObjectMeaning) → record { heap = heap; logs = logs; ran = ran } ≡ old
    → IsWhole (record { heap = heap; logs = logs; ran = ran }) → (h : Handle) → IsSome (get heap.state.live (key h))
    → contains heap.state.touched (key h) ≡ true
    → IsCalled answer Done old (record { heap = heap; logs = logs; ran = ran + 1 }) (write_of_all old h)
touched_here answer heap logs ran old view whole h some has =
    let parts : UndoObjectMeaning = record { heap = heap; logs = logs; ran = ran } in
    let stays = touched_stays heap.state h some has in
    subst (λ (o : UndoObjectMeaning).
    IsCalled answer Done o (record { heap = heap; logs = logs; ran = ran + 1 }) (write_of_all o h)) view
    (looked heap logs ran parts refl whole answer Done (write_of_all parts h) tt
    (unchanged_by heap (write_of_all parts h) (ap (λ (a : HeapAnswer). a.heap) stays))
    (sym (ap (λ (a : HeapAnswer). a.reply) stays)))

-- a touch of a live chunk that has a byte
pub first_here : {T : Type 0} (answer : Result T Refusal) (heap new : HeapMeaning) (logs new_logs : List LogEntry) (ran : ℕ)
    (old : UndoObjectMeaning) → record { heap = heap; logs = logs; ran = ran } ≡ old
    → IsWhole (record { heap = heap; logs = logs; ran = ran }) → (h : Handle) (bytes : List ℕ) → 0 < length bytes → get heap.state.live (key h) ≡ Some bytes
    → new ≡ record heap { state = with_touch heap.state (key h) } → IsSound new → OnErr answer (new ≡ heap) → new_logs ≡ logs
    → IsCalled answer Done old (record { heap = new; logs = new_logs; ran = ran + 1 }) (write_of_all old h)
first_here answer heap new logs new_logs ran old view whole h bytes some is after sound kept same =
    let parts : UndoObjectMeaning = record { heap = heap; logs = logs; ran = ran } in
    let step = first_touched heap.state h bytes some is in
    subst (λ (o : UndoObjectMeaning).
    IsCalled answer Done o (record { heap = new; logs = new_logs; ran = ran + 1 }) (write_of_all o h)) view
    (called_in_place heap logs ran parts refl whole answer Done new new_logs (write_of_all parts h) tt
    (after ∙ sym (ap (λ (a : HeapAnswer). record heap { state = a.heap }) step)) sound
    (sym (ap (λ (a : HeapAnswer). a.reply) step)) kept same)

-- the log that belongs to the step's chunks belongs to the heap
pub belongs_new : (heap new : HeapMeaning) (c : Command) (u : UndoMeaning) → new ≡ record (stepped heap c) { held_ids = new.held_ids } → Belongs heap.version heap.quota
    (step_of heap c).heap u → Belongs new.version new.quota new.state u
belongs_new heap new c u after belongs = subst (λ (m : HeapMeaning). Belongs m.version m.quota m.state u) (sym after) belongs
