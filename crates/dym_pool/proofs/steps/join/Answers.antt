use Rattle.std.proofs.Common.{rules}
use Rattle.dym_pool.proofs.Moves.{merges, has_few}
use Rattle.dym_pool.proofs.steps.join.Goals as goal

pub absorb-requires-clause-rule : goal.absorb-requires-clause-rule
absorb-requires-clause-rule g c = merges (λ b. (g.J.Job.number_of b.value, g.J.Job.origin_of b.value)) _ _ _ _ c.requires.part

pub len_as-requires : goal.len_as-requires
len_as-requires g c = has_few (λ b. (g.J.Job.number_of b.value, g.J.Job.origin_of b.value)) _ _ (search rules)
