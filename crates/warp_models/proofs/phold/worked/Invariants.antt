-- So many turns were taken.
use Rattle.std.proofs.Common.{◌≡◌}
use Rattle.warp_models.specs.Phold as definition
use Rattle.warp_models.proofs.phold.worked.Given as goal

abbrev pub invariant-loop-k : goal.invariant-loop-k
invariant-loop-k l = l.number ≡ definition.worked l.fn.from l.k
