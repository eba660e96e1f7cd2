use Rattle.dym_pool.specs.Holdings.{KeepsShare}
use Rattle.dym_pool.proofs.own_share.OwnShare.run.Given as goal

abbrev pub invariant-loop : goal.invariant-loop
invariant-loop g l = KeepsShare l.initial.self l.self
