use Rattle.std.proofs.Common.{◌≤◌}
use Rattle.dym_heap.specs.Shelves.{IsValidShelf, Keeps, count_of}
use Rattle.dym_heap.proofs.Fitting.{Upto, Agree}
use Rattle.dym_heap.proofs.record_shape.give_areas.Given as goal

abbrev pub invariant-loop-exp : goal.invariant-loop-exp
invariant-loop-exp g l = record {
  low : 5 ≤ l.exp;
  done : Upto l.shelf l.counts l.exp (λ n most. n ≤ most);
  agree : Agree l.fn.shelf.state l.shelf.state l.counts;
  keeps : Keeps l.fn.shelf l.shelf;
  valid_shelf : IsValidShelf l.shelf;
}

abbrev pub invariant-loop-class : goal.invariant-loop-class
invariant-loop-class g l = record {
  done : Upto l.shelf l.counts l.exp (λ n most. n ≤ most);
  agree : Agree l.fn.shelf.state l.shelf.state l.counts;
  keeps : Keeps l.fn.shelf l.shelf;
  valid_shelf : IsValidShelf l.shelf;
}

abbrev pub decreases-loop-class : goal.decreases-loop-class
decreases-loop-class g l = count_of l.shelf l.exp
