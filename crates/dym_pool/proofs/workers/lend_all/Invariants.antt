use Rattle.std.specs.List.{AllZip}
use Rattle.dym_pool.specs.Holdings.{IsStealShareOf, Lends}
use Rattle.dym_pool.proofs.Zips.{Through}
use Rattle.dym_pool.proofs.workers.lend_all.Given as goal

abbrev pub invariant-loop-place : goal.invariant-loop-place
invariant-loop-place g l = record {
  lent : AllZip (Lends l.place) l.initial.shares.items l.shares.items;
  given : Through (λ _ row. AllZip IsStealShareOf l.initial.shares.items row.items) l.place l.initial.rows.items l.rows.items;
}
