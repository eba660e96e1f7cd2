use Rattle.std.proofs.Common.{◌≡◌, ◌++◌, ◌+◌, reverse, vec_len, vec_capacity}
use Rattle.dym_pool.specs.Jobs.{unboxed}
use Rattle.dym_pool.proofs.boxes.unpack.Given as goal

abbrev pub invariant-loop-boxed : goal.invariant-loop-boxed
invariant-loop-boxed g l = (l.jobs.items ++ reverse (unboxed l.boxes.items) ≡ l.initial.jobs.items ++ reverse (unboxed l.initial.boxes.items))
    × (vec_capacity l.jobs ≡ vec_capacity l.initial.jobs)
    × (vec_len l.jobs + vec_len l.boxes ≡ vec_len l.initial.jobs + vec_len l.initial.boxes)

abbrev pub decreases-loop-boxed : goal.decreases-loop-boxed
decreases-loop-boxed g l = vec_len l.boxes
