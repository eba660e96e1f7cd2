use Rattle.std.proofs.Common.{◌≡◌}
use Rattle.dym_pool.proofs.turns.run_to_end.Given as goal

abbrev pub invariant-loop-job : goal.invariant-loop-job
invariant-loop-job g l = (g.J.Job.number_of l.job ≡ g.J.Job.number_of l.initial.job) × (g.J.Job.origin_of l.job ≡ g.J.Job.origin_of l.initial.job)

abbrev pub decreases-loop-job : goal.decreases-loop-job
decreases-loop-job g l = g.J.Job.left_of l.job
