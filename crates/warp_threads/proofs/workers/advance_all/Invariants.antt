use Rattle.std.proofs.Common.{◌≡◌, vec_len, vec_capacity}
use Rattle.warp_threads.proofs.Places.{AdvancedUpTo}
use Rattle.warp_threads.proofs.workers.advance_all.Given as goal

abbrev pub invariant-loop-place : goal.invariant-loop-place
invariant-loop-place g l = record {
  done : AdvancedUpTo g.L.Lane.advances l.orders l.initial.lanes.items l.place l.lanes.items;
  len : vec_len l.lanes ≡ vec_len l.initial.lanes;
  room : vec_capacity l.lanes ≡ vec_capacity l.initial.lanes;
}
