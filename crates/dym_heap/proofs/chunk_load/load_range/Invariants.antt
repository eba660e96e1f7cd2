use Rattle.std.proofs.Common.{◌-◌}
use Rattle.dym_area.specs.Area.{IsValidArea}
use Rattle.dym_heap.proofs.Loads.{RangeTo}
use Rattle.dym_heap.proofs.chunk_load.load_range.Given as goal

abbrev pub invariant-loop-start : goal.invariant-loop-start
invariant-loop-start g l = record {
  valid : IsValidArea l.area;
  range : RangeTo l.fn.area l.wanted l.first l.end l.bytes l.area l.from;
}

abbrev pub decreases-loop-start : goal.decreases-loop-start
decreases-loop-start g l = l.end - l.from
