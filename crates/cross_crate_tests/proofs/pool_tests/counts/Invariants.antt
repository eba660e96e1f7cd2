use Rattle.std.proofs.Common.{◌≡◌, vec_len, vec_capacity}
use Rattle.dym_pool.specs.Jobs.{Numbered}
use Rattle.cross_crate_tests.specs.declared.pool_tests.Count.{Count}
use Rattle.cross_crate_tests.proofs.pool_tests.counts.Given as goal

abbrev pub invariant-loop-number : goal.invariant-loop-number
invariant-loop-number l = (vec_len l.counts ≡ l.number) × (vec_capacity l.counts ≡ l.jobs) × Numbered (λ (j : Count). j.number) l.counts.items
