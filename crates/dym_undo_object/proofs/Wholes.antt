-- An object stays whole.
use Rattle.std.proofs.Common.{◌≡◌, ℕ, ◌≤◌, List, refl, sym, ap, subst}
use Rattle.std.specs.List.{AllByRecursion}
use Rattle.dym_base.specs.Heaps.{Live, HeapState, held}
use Rattle.dym_base.specs.HeapStep.{heap_step}
use Rattle.dym_base.specs.Laws.{IsWellSized}
use Rattle.dym_base.specs.Objects.{LogEntry, ObjectState}
use Rattle.dym_base.specs.RunLaws.{IsLogList, FoundLive}
use Rattle.dym_base.specs.declared.command.Version.{Version}
use Rattle.dym_base.specs.declared.command.Command.{Command}
use Rattle.dym_base.proofs.Runs.{copies_kept, touched_kept, log_list_kept}
use Rattle.dym_heap.specs.Meaning.{HeapMeaning, IsSound}
use Rattle.dym_undo.specs.HeapUndo.{is_within}
use Rattle.dym_undo_object.specs.Meaning.{UndoObjectMeaning, IsStep, IsWhole, state_of}

-- where its logs stay
pub heap_whole : (heap new : HeapMeaning) (logs new_logs : List LogEntry) (ran new_ran : ℕ) → IsWhole (record { heap = heap; logs = logs; ran = ran })
    → new ≡ record heap { state = new.state; held_ids = new.held_ids } → IsSound new → new_logs ≡ logs
    → IsWhole (record { heap = new; logs = new_logs; ran = new_ran })
heap_whole heap new logs new_logs ran new_ran whole rest sound same =
    let quota : new.quota ≡ heap.quota = ap (λ (h : HeapMeaning). h.quota) rest in
    let version : new.version ≡ heap.version = ap (λ (h : HeapMeaning). h.version) rest in
    subst (λ (l : List LogEntry). IsWhole (record { heap = new; logs = l; ran = new_ran })) (sym same) (record {
      sound = sound;
      list = whole.list;
      within = subst (λ q. AllByRecursion (λ (e : LogEntry). held e.copy ≤ q) logs) (sym quota) whole.within;
      sized = subst (λ (v : Version). AllByRecursion (λ (e : LogEntry). IsWellSized v e.copy) logs) (sym version) whole.sized;
      found = whole.found;
    })

-- by a command about its logs
module _ (old new : UndoObjectMeaning) (c : Command) (stays : (heap_step old.heap.version old.heap.quota old.heap.state c).heap ≡ old.heap.state) (whole : IsWhole old)
    (step : IsStep old new c) where
  copies : (Q : Live → Type 0) → Q old.heap.state.live → AllByRecursion (λ (e : LogEntry). Q e.copy) old.logs → AllByRecursion (λ (e : LogEntry). Q e.copy) new.logs
  copies Q here each =
      subst (λ (s : ObjectState). AllByRecursion (λ (e : LogEntry). Q e.copy) s.logs) (sym step.object)
      (copies_kept Q old.heap.version old.heap.quota (state_of old) c (subst (λ (s : HeapState). Q s.live) (sym stays) here) (here, each)).1

  pub log_whole : IsSound new.heap → IsWhole new
  log_whole sound =
      let quota : new.heap.quota ≡ old.heap.quota = ap (λ (h : HeapMeaning). h.quota) step.heap in
      let version : new.heap.version ≡ old.heap.version = ap (λ (h : HeapMeaning). h.version) step.heap in
      record {
        sound = sound;
        list = subst (λ (s : ObjectState). IsLogList s.logs) (sym step.object) (log_list_kept old.heap.version old.heap.quota (state_of old) c whole.list);
        within = subst (λ q. AllByRecursion (λ (e : LogEntry). held e.copy ≤ q) new.logs) (sym quota)
            (copies (λ live. held live ≤ old.heap.quota) whole.sound.within whole.within);
        sized = subst (λ (v : Version). AllByRecursion (λ (e : LogEntry). IsWellSized v e.copy) new.logs) (sym version)
            (copies (IsWellSized old.heap.version) (is_within old.heap whole.sound).sized whole.sized);
        found = subst (λ (s : ObjectState). AllByRecursion FoundLive s.logs) (sym step.object)
            (touched_kept old.heap.version old.heap.quota (state_of old) c (whole.sound.touched_live, whole.found)).1;
      }

-- where more chunks count as touched
pub touched_whole : (heap new : HeapMeaning) (logs new_logs : List LogEntry) (ran : ℕ) (state : HeapState) → IsWhole (record { heap = heap; logs = logs; ran = ran })
    → new ≡ record heap { state = state } → IsSound new → new_logs ≡ logs
    → IsWhole (record { heap = new; logs = new_logs; ran = ran })
touched_whole heap new logs new_logs ran state whole is sound same =
    heap_whole heap new logs new_logs ran ran whole (subst (λ (m : HeapMeaning). m ≡ record heap { state = m.state; held_ids = m.held_ids }) (sym is) refl) sound same
