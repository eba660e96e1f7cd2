use Rattle.std.proofs.Common.{◌≡◌, ℕ, ◌-◌, ◌≤◌, true}
use Rattle.dym_heap.specs.Touches.{has_byte_in}
use Rattle.dym_undo.specs.UndoLogs.{Belongs, IsKept}
use Rattle.dym_undo_object.proofs.touches.keep_in.Given as goal

abbrev pub invariant-loop-at : goal.invariant-loop-at
invariant-loop-at l = record {
  logs : l.undo.logs ≡ l.fn.undo.logs;
  belongs : Belongs l.fn.heap.version l.fn.heap.quota l.fn.heap.state l.undo;
  kept : (k : ℕ) → has_byte_in l.fn.heap.quota l.fn.heap.state.live l.fn.from l.at k ≡ true → IsKept l.undo k;
  low : l.fn.from ≤ l.at;
  high : l.at ≤ l.fn.end;
}

abbrev pub decreases-loop-at : goal.decreases-loop-at
decreases-loop-at l = l.fn.end - l.at
