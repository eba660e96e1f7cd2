use Rattle.dym_pool.proofs.Moves.{begins}
use Rattle.dym_pool.proofs.steps.open_deque.Goals as goal

pub lifo_as-requires : goal.lifo_as-requires
lifo_as-requires g c = begins (λ b. (g.J.Job.number_of b.value, g.J.Job.origin_of b.value))
