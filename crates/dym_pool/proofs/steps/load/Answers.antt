use Rattle.std.proofs.Common.{[], ◌∷◌}
use Rattle.dym_pool.proofs.Moves.{loads}
use Rattle.dym_pool.proofs.steps.load.Goals as goal

pub push_as-requires-clause-pushes : goal.push_as-requires-clause-pushes
push_as-requires-clause-pushes g c = loads (λ b. (g.J.Job.number_of b.value, g.J.Job.origin_of b.value)) _ _ (c.args.boxed ∷ []) c.requires.whole
