use Rattle.std.specs.List.{AllZip}
use Rattle.dym_pool.specs.Holdings.{KeepsShare}
use Rattle.dym_pool.proofs.worker.steal_all.Given as goal

abbrev pub invariant-loop : goal.invariant-loop
invariant-loop g l = AllZip KeepsShare l.initial.reaches.items l.reaches.items
