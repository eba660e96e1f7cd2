use Rattle.std.proofs.Common.{◌≡◌, [], All, vec_len, vec_capacity}
use Rattle.dym_pool.specs.Holdings.{Holding}
use Rattle.dym_pool.proofs.workers.open_shares.Given as goal

abbrev pub invariant-loop : goal.invariant-loop
invariant-loop g l = record {
  len : vec_len l.shares ≡ l.counter;
  room : vec_capacity l.shares ≡ l.workers;
  each : All (λ (s : Holding g.row.J-Origin.Denot). (s.list ≡ []) × (s.part ≡ 65) × (s.pushed ≡ 0) × (s.room ≡ l.room)) l.shares.items;
}
