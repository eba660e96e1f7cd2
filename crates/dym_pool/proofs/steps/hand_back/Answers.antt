use Rattle.dym_pool.proofs.Moves.{returns}
use Rattle.dym_pool.proofs.steps.hand_back.Goals as goal

pub push_as-requires-clause-pushes : goal.push_as-requires-clause-pushes
push_as-requires-clause-pushes g c = returns (λ b. (g.J.Job.number_of b.value, g.J.Job.origin_of b.value)) _ _ c.args.boxed c.requires.held.0 c.requires.part c.requires.held.1
