use Rattle.std.proofs.Common.{ap}
use Rattle.warp_threads.proofs.KeepsRule.{returns}
use Rattle.warp_threads.proofs.borrower.push.Goals as goal

pub try_push_as-requires-clause-rule : goal.try_push_as-requires-clause-rule
try_push_as-requires-clause-rule g c = returns _ _ _ _ (ap (λ v. v.borrows) c.loop.invariant.1) (ap (λ v. v.held) c.loop.invariant.1)
