use Rattle.std.proofs.Common.{◌≡◌, ◌+◌, ◌≤◌, [], All, vec_len, vec_capacity}
use Rattle.warp_threads.proofs.run.start_all.Given as goal

abbrev pub invariant-loop-lender : goal.invariant-loop-lender
invariant-loop-lender g l = record {
  idle : All (λ x. (x.0 ≡ []) × (x.1 ≡ [])) l.ends.items;
  nothing_lent : All (λ x. x ≡ []) l.lenders.items;
  few : vec_len l.lenders + vec_len l.ends ≤ vec_len l.initial.ends;
  room : vec_len l.initial.ends ≤ vec_capacity l.lenders;
}

abbrev pub decreases-loop-lender : goal.decreases-loop-lender
decreases-loop-lender g l = vec_len l.ends
