use Rattle.std.proofs.Common.{◌≡◌, ℕ, ◌-◌, ◌^◌, ◌<◌, true}
use Rattle.std.specs.FinMap.{contains_key}
use Rattle.dym_heap.specs.Replies.{after_key}
use Rattle.dym_undo.specs.UndoLogs.{Belongs, IsKept}
use Rattle.dym_undo_object.proofs.touches.keep_live.Given as goal

abbrev pub invariant-loop-h : goal.invariant-loop-h
invariant-loop-h g l = record {
  logs : l.undo.logs ≡ l.fn.undo.logs;
  belongs : Belongs l.fn.heap.version l.fn.heap.quota l.fn.heap.state l.undo;
  kept : (k : ℕ) → k < after_key l.last → contains_key l.fn.heap.state.live k ≡ true → IsKept l.undo k;
}

abbrev pub decreases-loop-h : goal.decreases-loop-h
decreases-loop-h g l = 2 ^ 37 - after_key l.last
