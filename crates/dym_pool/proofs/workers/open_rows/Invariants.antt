use Rattle.std.proofs.Common.{◌≡◌, All, vec_len, vec_capacity}
use Rattle.std.specs.List.{AllZip}
use Rattle.dym_pool.specs.Holdings.{IsNewStealShare}
use Rattle.dym_pool.proofs.workers.open_rows.Given as goal

abbrev pub invariant-loop : goal.invariant-loop
invariant-loop g l = record {
  len : vec_len l.rows ≡ l.counter;
  room : vec_capacity l.rows ≡ vec_len l.shares;
  guests : All (λ row. AllZip IsNewStealShare l.shares.items row.items) l.rows.items;
}
