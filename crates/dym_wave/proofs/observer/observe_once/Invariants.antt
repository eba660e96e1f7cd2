use Rattle.dym_wave.specs.Observations.{LookedOn}
use Rattle.dym_wave.proofs.observer.observe_once.Given as goal

abbrev pub invariant-loop-place : goal.invariant-loop-place
invariant-loop-place l = LookedOn l.initial.viewers.items l.viewers.items
