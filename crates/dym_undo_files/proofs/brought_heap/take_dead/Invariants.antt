use Rattle.std.proofs.Common.{◌≡◌, ◌-◌, ◌^◌}
use Rattle.dym_heap.specs.Replies.{after_key}
use Rattle.dym_undo.specs.HeapUndo.{KeepsRest}
use Rattle.dym_undo_files.specs.BroughtHeaps.{IsKeptHeap}
use Rattle.dym_undo_files.proofs.Bringing.{AreChecked}
use Rattle.dym_undo_files.proofs.brought_heap.take_dead.Given as goal

abbrev pub invariant-loop-h : goal.invariant-loop-h
invariant-loop-h g l = record {
  checked : AreChecked l.heap.state.live l.other.state.live (after_key l.last);
  kept : IsKeptHeap l.heap l.undo;
  logs : l.undo.logs ≡ l.fn.undo.logs;
  rest : KeepsRest l.fn.heap l.heap;
}

abbrev pub decreases-loop-h : goal.decreases-loop-h
decreases-loop-h g l = 2 ^ 37 - after_key l.last
