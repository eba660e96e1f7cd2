use Rattle.std.proofs.Common.{◌≡◌, vec_len}
use Rattle.dym_heap.specs.Arrangement.{Owns}
use Rattle.dym_heap.proofs.shelf.give_all.Given as goal

abbrev pub invariant-loop-sized_area : goal.invariant-loop-sized_area
invariant-loop-sized_area g l = record {
  owns : Owns (g.S.Supply.held_ids l.supply) l.sized_areas.items;
  quota : g.S.Supply.quota_of l.supply ≡ g.S.Supply.quota_of l.fn.supply;
  origin : g.S.Supply.origin l.supply ≡ g.S.Supply.origin l.fn.supply;
}

abbrev pub decreases-loop-sized_area : goal.decreases-loop-sized_area
decreases-loop-sized_area g l = vec_len l.sized_areas
