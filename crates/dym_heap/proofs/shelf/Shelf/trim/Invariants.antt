use Rattle.std.proofs.Common.{length}
use Rattle.dym_heap.specs.Shelves.{IsValidShelf}
use Rattle.dym_heap.proofs.ShelfGrows.{Cuts}
use Rattle.dym_heap.proofs.shelf.Shelf.trim.Given as goal

abbrev pub invariant-loop-class : goal.invariant-loop-class
invariant-loop-class g l = record {
  cuts : Cuts l.initial.self l.self l.class.exp;
  valid_shelf : IsValidShelf l.self;
}

abbrev pub decreases-loop-class : goal.decreases-loop-class
decreases-loop-class g l = length l.self.held_ids
