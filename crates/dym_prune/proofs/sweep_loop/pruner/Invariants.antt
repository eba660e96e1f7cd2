use Rattle.dym_prune.proofs.Rounds.{RoundsTo, TwoAfterEach}
use Rattle.dym_prune.proofs.sweep_loop.pruner.Given as goal

abbrev pub invariant-loop : goal.invariant-loop
invariant-loop g l =
    RoundsTo l.fn.sweepers l.sweepers l.total × TwoAfterEach l.fn.sweepers l.sweepers l.fn.ear.misses l.ear.misses
    × (goal.iterator-loop g).can_next l.iterator' × (goal.iterator-loop g).is_finite l.iterator'
