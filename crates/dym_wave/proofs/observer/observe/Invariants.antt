use Rattle.dym_wave.specs.Observations.{LookedOn}
use Rattle.dym_wave.proofs.observer.observe.Given as goal

abbrev pub invariant-loop : goal.invariant-loop
invariant-loop g l = LookedOn l.initial.viewers.items l.viewers.items × (goal.iterator-loop g).can_next l.iterator' × (goal.iterator-loop g).is_finite l.iterator'
