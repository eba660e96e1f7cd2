use Rattle.std.proofs.Common.{rules}
use Rattle.dym_pool.proofs.Places.{placed-push}
use Rattle.dym_pool.proofs.result_slots.place.Goals as goal

pub loop-boxed-preserved-in-Some : goal.loop-boxed-preserved-in-Some
loop-boxed-preserved-in-Some g c =
    placed-push (λ b. g.J.Job.number_of b.value) c.loop-boxed.yielded c.in-Some.boxed _ _ _ c.loop-boxed.invariant (search rules)

pub loop-boxed-preserved : goal.loop-boxed-preserved
loop-boxed-preserved g c =
    placed-push (λ b. g.J.Job.number_of b.value) c.loop-boxed.yielded c.in-Some.boxed _ _ _ c.loop-boxed.invariant (search rules)
