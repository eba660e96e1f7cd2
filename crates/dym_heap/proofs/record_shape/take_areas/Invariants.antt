use Rattle.std.proofs.Common.{◌≡◌, ◌≤◌, ◌-◌}
use Rattle.dym_heap.specs.Shelves.{IsValidShelf, Keeps, count_of}
use Rattle.dym_heap.proofs.Fitting.{Upto, AtMost}
use Rattle.dym_heap.proofs.record_shape.take_areas.Given as goal

abbrev pub invariant-loop-exp : goal.invariant-loop-exp
invariant-loop-exp g l = record {
  low : 5 ≤ l.exp;
  done : Upto l.shelf l.counts l.exp (λ n wanted. n ≡ wanted);
  most : AtMost l.shelf l.counts;
  state : l.shelf.state ≡ l.fn.shelf.state;
  keeps : Keeps l.fn.shelf l.shelf;
  valid_shelf : IsValidShelf l.shelf;
}

abbrev pub invariant-loop-class : goal.invariant-loop-class
invariant-loop-class g l = record {
  done : Upto l.shelf l.counts l.exp (λ n wanted. n ≡ wanted);
  most : AtMost l.shelf l.counts;
  state : l.shelf.state ≡ l.fn.shelf.state;
  keeps : Keeps l.fn.shelf l.shelf;
  valid_shelf : IsValidShelf l.shelf;
}

abbrev pub decreases-loop-class : goal.decreases-loop-class
decreases-loop-class g l = l.count - count_of l.shelf l.exp
