use Rattle.std.proofs.Common.{◌-◌, ◌<◌, ◌≤◌, get_or}
use Rattle.dym_heap.specs.SizedAreas.{IsSizedArea}
use Rattle.dym_heap.proofs.Fills.{FilledSo}
use Rattle.dym_heap.proofs.sized_area.SizedArea.repeat.Given as goal

abbrev pub invariant-loop-done : goal.invariant-loop-done
invariant-loop-done g l = record {
  some : 0 < l.done;
  fits : l.done ≤ l.len;
  is : FilledSo l.fn.self l.self l.i l.at l.done (get_or l.block 0 0);
  valid : IsSizedArea l.self;
}

abbrev pub decreases-loop-done : goal.decreases-loop-done
decreases-loop-done g l = l.len - l.done
