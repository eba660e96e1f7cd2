use Rattle.std.proofs.Common.{◌≡◌, ◌++◌, ◌+◌, ◌≤◌, length, vec_len, vec_capacity}
use Rattle.dym_pool.specs.Jobs.{unboxed}
use Rattle.dym_pool.specs.Shares.{standing}
use Rattle.dym_pool.proofs.result_slots.take_standing.Given as goal

abbrev pub invariant-loop-slot : goal.invariant-loop-slot
invariant-loop-slot g l = (l.jobs.items ≡ l.initial.jobs.items ++ unboxed (standing l.yielded))
    × (vec_capacity l.jobs ≡ vec_capacity l.initial.jobs)
    × (vec_len l.jobs ≤ vec_len l.initial.jobs + length l.yielded)
    × (goal.iterator-loop-slot g).can_next l.slot-iterator
    × (goal.iterator-loop-slot g).is_finite l.slot-iterator
