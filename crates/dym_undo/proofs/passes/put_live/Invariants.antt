use Rattle.std.proofs.Common.{◌≡◌, drop, length, ◌/◌, ◌≤◌}
use Rattle.dym_undo.specs.Heads.{bytes_in, changes_of}
use Rattle.dym_undo.specs.Passes.{put_live, AreHeadKeys, AreFitting, IsAmong, TouchesNoMore}
use Rattle.dym_undo.proofs.passes.put_live.Given as goal

abbrev pub invariant-loop-head : goal.invariant-loop-head
invariant-loop-head g l = record {
  sound : g.H.UndoHeap.is_sound l.heap;
  keys : AreHeadKeys (length l.initial.words / 64) (drop l.head-index l.heads);
  fits : bytes_in (drop l.head-index l.heads) ≤ length l.rest;
  fitting : AreFitting (g.H.UndoHeap.version_of l.initial.heap) (changes_of (drop l.head-index l.heads) l.rest);
  among : IsAmong (g.H.UndoHeap.state l.heap).live (put_live (changes_of l.heads l.initial.rest) (record { words = l.initial.words; live = (g.H.UndoHeap.state l.initial.heap).live })).live;
  way : put_live (changes_of (drop l.head-index l.heads) l.rest) (record { words = l.words; live = (g.H.UndoHeap.state l.heap).live }) ≡ put_live (changes_of l.heads l.initial.rest) (record { words = l.initial.words; live = (g.H.UndoHeap.state l.initial.heap).live });
  touched : TouchesNoMore (g.H.UndoHeap.state l.initial.heap) (g.H.UndoHeap.state l.heap);
  rest : g.H.UndoHeap.keeps_rest l.initial.heap l.heap;
}
