use Rattle.dym_pool.specs.Holdings.{Holding, Lends}
use Rattle.std.proofs.Common.{◌≡◌}
use Rattle.dym_pool.proofs.Zips.{Through}
use Rattle.dym_pool.proofs.workers.lend_row.Given as goal

abbrev pub invariant-loop-place : goal.invariant-loop-place
invariant-loop-place g l = record {
  lent : Through (Lends 1) l.place l.initial.shares.items l.shares.items;
  given : Through (λ (before after : Holding g.row.J-Origin.Denot). (after.deque ≡ before.deque) × (after.part ≡ 1)) l.place l.initial.row.items l.row.items;
}
