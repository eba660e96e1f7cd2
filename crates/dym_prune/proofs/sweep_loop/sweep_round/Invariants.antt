use Rattle.dym_prune.proofs.Rounds.{SweptTo}
use Rattle.dym_prune.proofs.sweep_loop.sweep_round.Given as goal

abbrev pub invariant-round : goal.invariant-round
invariant-round l = SweptTo l.i l.fn.sweepers l.sweepers l.total
