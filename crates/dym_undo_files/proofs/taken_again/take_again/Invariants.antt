use Rattle.std.proofs.Common.{take}
use Rattle.dym_undo_files.specs.TakenChains.{AreTaken, IsHeapOf}
use Rattle.dym_undo_files.proofs.taken_again.take_again.Given as goal

abbrev pub invariant-loop-k : goal.invariant-loop-k
invariant-loop-k g l = record {
  taken : AreTaken l.heap.version l.heap.quota (take l.k l.undo.logs) l.before.heap l.chain;
  now : IsHeapOf l.heap.version l.heap.quota l.now.heap;
}
