use Rattle.std.proofs.Common.{◌≡◌}
use Rattle.std.specs.declared.boxed.Box.{Box}
use Rattle.std.specs.declared.alloc.Global.{Global}
use Rattle.dym_pool.specs.Shares.{placed}
use Rattle.dym_pool.proofs.result_slots.place.Given as goal

abbrev pub invariant-loop-boxed : goal.invariant-loop-boxed
invariant-loop-boxed g l = l.slots ≡ placed (λ (b : Box g.row.J.Denot Global). g.J.Job.number_of b.value) l.yielded l.initial.slots
