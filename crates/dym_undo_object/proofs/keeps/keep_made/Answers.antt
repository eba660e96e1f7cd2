use Rattle.std.proofs.Common.{subst}
use Rattle.dym_undo_object.specs.Keeps.{Differs, IsDeadIn}
use Rattle.dym_undo_object.proofs.keeps.keep_made.Goals as goal

pub returns-in-Some-clause-kept : goal.returns-in-Some-clause-kept
returns-in-Some-clause-kept g c v quota s t belongs dead differ =
    c.keep_fresh.ensures.kept v quota s t belongs (subst (λ m. IsDeadIn s m) c.in-Some.is dead) (subst (λ m. Differs m s t) c.in-Some.is differ)
