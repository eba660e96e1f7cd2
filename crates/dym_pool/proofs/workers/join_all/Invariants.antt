use Rattle.std.proofs.Common.{◌≡◌, ◌+◌, ℕ, All, vec_len}
use Rattle.std.specs.List.{AllZip}
use Rattle.dym_pool.specs.Holdings.{IsStealShareOf, Joins}
use Rattle.dym_pool.proofs.workers.join_all.Given as goal

abbrev pub invariant-loop-row : goal.invariant-loop-row
invariant-loop-row g l = record {
  joined : (n : ℕ) × (n + vec_len l.rows ≡ vec_len l.initial.rows) × AllZip (Joins n) l.initial.shares.items l.shares.items;
  reaches : All (λ row. AllZip IsStealShareOf l.initial.shares.items row.items) l.rows.items;
}

abbrev pub decreases-loop-row : goal.decreases-loop-row
decreases-loop-row g l = vec_len l.rows
