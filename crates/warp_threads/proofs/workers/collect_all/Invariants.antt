use Rattle.std.proofs.Common.{◌≡◌, ◌+◌, List, vec_len, vec_capacity}
use Rattle.warp_threads.specs.Rounds.{one_each}
use Rattle.warp_threads.proofs.Places.{BackUpTo}
use Rattle.warp_threads.proofs.workers.collect_all.Given as goal

abbrev pub invariant-loop-place : goal.invariant-loop-place
invariant-loop-place g l = record {
  back : (lent : List (g.row.O.Denot × g.row.L.Denot)) → l.initial.lenders.items ≡ one_each lent → BackUpTo g.L.Lane.advances lent l.initial.lanes.items l.place l.lenders.items l.lanes.items;
  len : vec_len l.lanes ≡ vec_len l.initial.lanes + l.place;
  threads : vec_len l.lenders ≡ vec_len l.initial.lenders;
  room : vec_capacity l.lanes ≡ vec_capacity l.initial.lanes;
}
