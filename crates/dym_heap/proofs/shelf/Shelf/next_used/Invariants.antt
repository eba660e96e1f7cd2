use Rattle.std.proofs.Common.{◌+◌, ◌-◌, ◌*◌, ◌<◌, ◌≤◌}
use Rattle.dym_heap.proofs.NextUsed.{FreeUpTo}
use Rattle.dym_heap.proofs.shelf.Shelf.next_used.Given as goal

abbrev pub invariant-loop-ordinal : goal.invariant-loop-ordinal
invariant-loop-ordinal g l = record {
  free : FreeUpTo l.self.state l.fn.class.exp l.from (l.ordinal * l.per + l.chunk);
  start : l.from ≤ l.ordinal * l.per + l.chunk;
  small : l.chunk < l.per;
}

abbrev pub decreases-loop-ordinal : goal.decreases-loop-ordinal
decreases-loop-ordinal g l = l.count - l.ordinal
