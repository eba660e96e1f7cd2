use Rattle.std.proofs.Common.{◌≡◌, ℕ}
use Rattle.dym_base.specs.Numbers.{IsClass}
use Rattle.dym_base.specs.Heaps.{areas}
use Rattle.dym_pack.specs.ParsedAreas.{OfLog}
use Rattle.dym_heap.specs.Shelves.{IsValidShelf, count_of}
use Rattle.dym_heap.proofs.AreaSteps.{UpTo}
use Rattle.dym_heap.proofs.Reshapes.{Reshaped}
use Rattle.dym_heap.proofs.record_shape.use_areas.Given as goal

abbrev pub invariant-loop-k : goal.invariant-loop-k
invariant-loop-k g l = record {
  same : l.shelf ≡ record l.fn.shelf { state = l.shelf.state };
  valid_shelf : IsValidShelf l.shelf;
  are : OfLog l.rec (λ log. (e : ℕ) → IsClass e → count_of l.shelf e ≡ areas log.copy e);
  upto : OfLog l.rec (λ log. (q : ℕ) → UpTo (Reshaped log.copy) log.copy l.fn.shelf.state l.shelf.state l.k q);
}
