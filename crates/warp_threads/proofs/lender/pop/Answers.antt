use Rattle.std.proofs.Common.{ap, ◌∙◌}
use Rattle.warp_threads.proofs.KeepsRule.{collects}
use Rattle.warp_threads.proofs.lender.pop.Goals as goal

pub try_pop_as-requires-clause-rule : goal.try_pop_as-requires-clause-rule
try_pop_as-requires-clause-rule g c = collects _ _ (ap (λ v. v.lends) (c.loop.invariant.1 ∙ c.requires.lent.1))
