use Rattle.std.proofs.Common.{ap}
use Rattle.warp_threads.proofs.KeepsRule.{borrows}
use Rattle.warp_threads.proofs.borrower.pop.Goals as goal

pub try_pop_as-requires-clause-rule : goal.try_pop_as-requires-clause-rule
try_pop_as-requires-clause-rule g c = borrows _ _ (ap (λ v. v.borrows) c.loop.invariant.1) (ap (λ v. v.held) c.loop.invariant.1)
