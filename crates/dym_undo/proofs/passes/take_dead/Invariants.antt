use Rattle.std.proofs.Common.{◌≡◌, drop, length, ◌/◌}
use Rattle.dym_undo.specs.Passes.{take_dead, AreHeadKeys, TouchesNoMore}
use Rattle.dym_undo.proofs.passes.take_dead.Given as goal

abbrev pub invariant-loop-head : goal.invariant-loop-head
invariant-loop-head g l = record {
  sound : g.H.UndoHeap.is_sound l.heap;
  keys : AreHeadKeys (length l.initial.words / 64) (drop l.head-index l.heads);
  way : take_dead (drop l.head-index l.heads) (record { words = l.words; live = (g.H.UndoHeap.state l.heap).live }) ≡ take_dead l.heads (record { words = l.initial.words; live = (g.H.UndoHeap.state l.initial.heap).live });
  touched : TouchesNoMore (g.H.UndoHeap.state l.initial.heap) (g.H.UndoHeap.state l.heap);
  rest : g.H.UndoHeap.keeps_rest l.initial.heap l.heap;
}
