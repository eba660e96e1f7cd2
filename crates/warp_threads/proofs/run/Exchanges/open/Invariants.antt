use Rattle.std.proofs.Common.{◌≡◌, ◌≤◌, [], All, vec_len, vec_capacity}
use Rattle.warp_threads.proofs.run.Exchanges.open.Given as goal

abbrev pub invariant-loop : goal.invariant-loop
invariant-loop g l = record {
  len : vec_len l.ends ≡ l.counter;
  room : l.count ≤ vec_capacity l.ends;
  idle : All (λ x. (x.0 ≡ []) × (x.1 ≡ [])) l.ends.items;
}
