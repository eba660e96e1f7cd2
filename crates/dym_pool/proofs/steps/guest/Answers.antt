use Rattle.dym_pool.proofs.Moves.{admits}
use Rattle.dym_pool.proofs.steps.guest.Goals as goal

pub pass-requires : goal.pass-requires
pass-requires g c = admits (λ b. (g.J.Job.number_of b.value, g.J.Job.origin_of b.value))
