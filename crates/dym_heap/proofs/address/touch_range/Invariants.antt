use Rattle.std.proofs.Common.{◌≡◌, ◌≤◌, ◌-◌}
use Rattle.dym_heap.specs.Shelves.{IsTidy}
use Rattle.dym_heap.proofs.Ranges.{Met}
use Rattle.dym_heap.proofs.address.touch_range.Given as goal

abbrev pub invariant-loop-at : goal.invariant-loop-at
invariant-loop-at g l = record {
  met : Met l.fn.shelf.quota l.fn.shelf.state l.shelf.state l.fn.from l.at;
  same : l.shelf ≡ record l.fn.shelf { state = l.shelf.state };
  tidy : IsTidy l.shelf;
  low : l.fn.from ≤ l.at;
  high : l.at ≤ l.fn.end;
}

abbrev pub decreases-loop-at : goal.decreases-loop-at
decreases-loop-at g l = l.fn.end - l.at
