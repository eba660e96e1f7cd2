use Rattle.std.proofs.Common.{◌≡◌, ◌++◌, ◌+◌, reverse, vec_len, vec_capacity}
use Rattle.dym_pool.specs.Jobs.{unboxed}
use Rattle.dym_pool.proofs.boxes.pack.Given as goal

abbrev pub invariant-loop-job : goal.invariant-loop-job
invariant-loop-job g l = (l.jobs.items ++ reverse (unboxed l.boxes.items) ≡ l.initial.jobs.items)
    × (vec_capacity l.jobs ≡ vec_capacity l.initial.jobs)
    × (vec_capacity l.boxes ≡ vec_capacity l.initial.boxes)
    × (vec_len l.jobs + vec_len l.boxes ≡ vec_len l.initial.jobs)

abbrev pub decreases-loop-job : goal.decreases-loop-job
decreases-loop-job g l = vec_len l.jobs
