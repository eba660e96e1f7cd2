use Rattle.dym_pool.proofs.Moves.{forks}
use Rattle.dym_pool.proofs.steps.lend.Goals as goal

pub another-requires : goal.another-requires
another-requires g c = forks (λ b. (g.J.Job.number_of b.value, g.J.Job.origin_of b.value)) _ _ c.requires.parts
