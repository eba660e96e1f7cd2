use Rattle.dym_pool.specs.Holdings.{IsFinished}
use Rattle.dym_pool.proofs.Zips.{Through}
use Rattle.dym_pool.proofs.workers.finish_all.Given as goal

abbrev pub invariant-loop-place : goal.invariant-loop-place
invariant-loop-place g l = Through IsFinished l.place l.initial.shares.items l.shares.items
