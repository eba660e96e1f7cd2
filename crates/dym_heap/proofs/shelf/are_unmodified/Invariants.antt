use Rattle.std.proofs.Common.{◌≡◌, ℕ, ◌<◌, get_or}
use Rattle.dym_heap.specs.SizedAreas.{SizedAreaMeaning, clean}
use Rattle.dym_heap.proofs.shelf.are_unmodified.Given as goal

abbrev pub invariant-loop-i : goal.invariant-loop-i
invariant-loop-i g l = (k : ℕ) (d : SizedAreaMeaning) → k < l.i → clean (get_or l.sized_areas.items k d) ≡ get_or l.sized_areas.items k d
