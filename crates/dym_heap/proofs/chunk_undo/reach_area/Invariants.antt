use Rattle.std.proofs.Common.{◌+◌, ◌-◌}
use Rattle.dym_heap.specs.Shelves.{count_of}
use Rattle.dym_heap.proofs.HeapUndo.{Reaching}
use Rattle.dym_heap.proofs.chunk_undo.reach_area.Given as goal

abbrev pub invariant-loop-class : goal.invariant-loop-class
invariant-loop-class g l = Reaching l.fn.shelf l.shelf l.class.exp l.ordinal

abbrev pub decreases-loop-class : goal.decreases-loop-class
decreases-loop-class g l = l.ordinal + 1 - count_of l.shelf l.class.exp
