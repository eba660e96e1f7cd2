use Rattle.std.proofs.Common.{◌≡◌, ◌++◌, ◌+◌, map, reverse, vec_len, vec_capacity}
use Rattle.dym_pool.specs.BoxedJobs.{job_of}
use Rattle.dym_pool.proofs.boxed_job.box_all.Given as goal

abbrev pub invariant-loop-job : goal.invariant-loop-job
invariant-loop-job g l = (l.jobs.items ++ reverse (map job_of l.carried.items) ≡ l.initial.jobs.items)
    × (vec_capacity l.jobs ≡ vec_capacity l.initial.jobs)
    × (vec_capacity l.carried ≡ vec_capacity l.initial.carried)
    × (vec_len l.jobs + vec_len l.carried ≡ vec_len l.initial.jobs)

abbrev pub decreases-loop-job : goal.decreases-loop-job
decreases-loop-job g l = vec_len l.jobs
