use Rattle.std.proofs.Common.{◌≡◌, ◌≤◌, ◌++◌, List, vec_len}
use Rattle.dym_pool.specs.Holdings.{Holding, Joins}
use Rattle.dym_pool.proofs.Zips.{Back}
use Rattle.dym_pool.proofs.workers.join_row.Given as goal

abbrev pub invariant-loop-steal_share : goal.invariant-loop-steal_share
invariant-loop-steal_share g l = record {
  joined : Back (Joins 1) (vec_len l.row) l.initial.shares.items l.shares.items;
  left : (tail : List (Holding g.row.J-Origin.Denot)) × (l.row.items ++ tail ≡ l.initial.row.items);
  few : vec_len l.row ≤ vec_len l.initial.row;
}

abbrev pub decreases-loop-steal_share : goal.decreases-loop-steal_share
decreases-loop-steal_share g l = vec_len l.row
