use Rattle.std.proofs.Common.{ap}
use Rattle.warp_threads.proofs.KeepsRule.{lends}
use Rattle.warp_threads.proofs.lender.push.Goals as goal

pub try_push_as-requires-clause-rule : goal.try_push_as-requires-clause-rule
try_push_as-requires-clause-rule g c = lends _ _ _ _ (ap (λ v. v.lends) c.loop.invariant.1) (ap (λ v. v.lent) c.loop.invariant.1)
