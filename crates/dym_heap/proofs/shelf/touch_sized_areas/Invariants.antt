use Rattle.std.proofs.Common.{◌≡◌, ◌++◌, map, take, drop, length, vec_capacity}
use Rattle.dym_heap.specs.SizedAreas.{used_touched}
use Rattle.dym_heap.proofs.shelf.touch_sized_areas.Given as goal

abbrev pub invariant-loop-i : goal.invariant-loop-i
invariant-loop-i g l = record {
  items : l.sized_areas.items ≡ map used_touched (take l.i l.fn.sized_areas.items) ++ drop l.i l.fn.sized_areas.items;
  many : length l.sized_areas.items ≡ length l.fn.sized_areas.items;
  room : vec_capacity l.sized_areas ≡ vec_capacity l.fn.sized_areas;
}
