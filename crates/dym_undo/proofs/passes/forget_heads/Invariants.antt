use Rattle.std.proofs.Common.{◌≡◌, ℕ, not, ◌&&◌, drop}
use Rattle.std.specs.FinSet as set
use Rattle.dym_undo.specs.Passes.{is_headed}
use Rattle.dym_undo.proofs.passes.forget_heads.Given as goal

abbrev pub invariant-loop-head : goal.invariant-loop-head
invariant-loop-head g l = record {
  sound : g.H.UndoHeap.is_sound l.heap;
  live : (g.H.UndoHeap.state l.heap).live ≡ (g.H.UndoHeap.state l.initial.heap).live;
  touched : (k : ℕ) → (not (is_headed k (drop l.head-index l.heads)) && set.contains (g.H.UndoHeap.state l.heap).touched k) ≡ (not (is_headed k l.heads) && set.contains (g.H.UndoHeap.state l.initial.heap).touched k);
  rest : g.H.UndoHeap.keeps_rest l.initial.heap l.heap;
}
