use Rattle.std.proofs.Common.{◌≡◌, ◌++◌, vec_capacity}
use Rattle.dym_pool.proofs.own_steps.move_all.Given as goal

abbrev pub invariant-loop-boxed : goal.invariant-loop-boxed
invariant-loop-boxed g l = (l.to.items ≡ l.initial.to.items ++ l.yielded) × (vec_capacity l.to ≡ vec_capacity l.initial.to)
