use Rattle.std.proofs.Common.{◌≡◌, ◌++◌, ◌+◌, map, length, vec_len, vec_capacity}
use Rattle.dym_pool.specs.BoxedJobs.{job_of}
use Rattle.dym_pool.proofs.boxed_job.give_back.Given as goal

abbrev pub invariant-loop-one : goal.invariant-loop-one
invariant-loop-one g l = (l.jobs.items ≡ l.initial.jobs.items ++ map job_of l.yielded)
    × (vec_capacity l.jobs ≡ vec_capacity l.initial.jobs)
    × (vec_len l.jobs ≡ vec_len l.initial.jobs + length l.yielded)
    × (goal.iterator-loop-one g).can_next l.one-iterator
    × (goal.iterator-loop-one g).is_finite l.one-iterator
