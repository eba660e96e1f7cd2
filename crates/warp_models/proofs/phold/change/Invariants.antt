-- The numbers before the loop's place are changed.
use Rattle.std.proofs.Common.{◌≡◌}
use Rattle.warp_models.specs.Phold as definition
use Rattle.warp_models.proofs.phold.change.Given as goal

abbrev pub invariant-loop-k : goal.invariant-loop-k
invariant-loop-k l = l.numbers.items ≡ definition.changed l.fn.job l.k 0 l.fn.numbers.items
