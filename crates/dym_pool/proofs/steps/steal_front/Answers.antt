use Rattle.dym_pool.proofs.Moves.{takes}
use Rattle.dym_pool.proofs.steps.steal_front.Goals as goal

pub steal_as-requires-clause-takes : goal.steal_as-requires-clause-takes
steal_as-requires-clause-takes g c = takes (λ b. (g.J.Job.number_of b.value, g.J.Job.origin_of b.value)) _ _ c.requires.part
