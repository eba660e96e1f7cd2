use Rattle.std.proofs.Common.{List, [], sym, ap, subst, arith}
use Rattle.dym_base.specs.Objects.{LogEntry}
use Rattle.dym_heap.specs.Meaning.{HeapMeaning, IsSound}
use Rattle.dym_undo.specs.UndoLogs.{UndoMeaning}
use Rattle.dym_undo_object.specs.Meaning.{IsWhole}
use Rattle.dym_undo_object.proofs.undo_object.UndoObject.open.Goals as goal

no_log : (heap : HeapMeaning) → IsSound heap → IsWhole (record { heap = heap; logs = []; ran = 0 })
no_log heap sound = record { sound = sound; list = (omega arith, tt, tt); within = tt; sized = tt; found = tt }

pub invariant_of-result : goal.invariant_of-result
invariant_of-result g c =
    let h = c.in-Ok-open_as.heap in
    let u = c.in-Ok.undo in
    record {
      whole = subst (λ (l : List LogEntry). IsWhole (record { heap = h; logs = l; ran = 0 })) (sym (ap (λ (x : UndoMeaning). x.logs) c.in-Ok.ensures.opened))
          (no_log h c.in-Ok-open_as.ensures.sound);
      belongs = subst (λ q. Rattle.dym_undo.specs.UndoLogs.Belongs h.version q h.state u) (sym (ap (λ (x : HeapMeaning). x.quota) c.in-Ok-open_as.ensures.opened))
          (subst (λ q. Rattle.dym_undo.specs.UndoLogs.Belongs h.version q h.state u) c.quota.ensures (c.in-Ok.ensures.belongs h.version h.state));
    }
