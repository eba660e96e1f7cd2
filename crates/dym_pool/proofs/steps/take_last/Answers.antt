use Rattle.dym_pool.proofs.Moves.{pops, finds}
use Rattle.dym_pool.proofs.steps.take_last.Goals as goal

pub pop_as-requires-clause-lifo : goal.pop_as-requires-clause-lifo
pop_as-requires-clause-lifo g c is = pops (λ b. (g.J.Job.number_of b.value, g.J.Job.origin_of b.value)) _ _ c.requires.part

pub pop_as-requires-clause-empty : goal.pop_as-requires-clause-empty
pop_as-requires-clause-empty g c = finds (λ b. (g.J.Job.number_of b.value, g.J.Job.origin_of b.value)) _ _
