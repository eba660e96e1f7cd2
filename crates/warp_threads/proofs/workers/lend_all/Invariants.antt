use Rattle.std.proofs.Common.{◌≡◌, ◌+◌, ◌≤◌, vec_len, vec_capacity}
use Rattle.warp_threads.proofs.Places.{LentFrom}
use Rattle.warp_threads.proofs.workers.lend_all.Given as goal

abbrev pub invariant-loop-place : goal.invariant-loop-place
invariant-loop-place g l = record {
  lent : LentFrom l.orders l.initial.lenders.items l.initial.lanes.items l.place l.lenders.items (vec_len l.lanes) l.lanes.items;
  left : vec_len l.lanes + vec_len l.initial.lenders ≡ vec_len l.initial.lanes + l.place;
  place : l.place ≤ vec_len l.initial.lenders;
  threads : vec_len l.lenders ≡ vec_len l.initial.lenders;
  room : vec_capacity l.lanes ≡ vec_capacity l.initial.lanes;
}

abbrev pub decreases-loop-place : goal.decreases-loop-place
decreases-loop-place g l = l.place
