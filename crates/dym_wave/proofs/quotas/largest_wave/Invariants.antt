use Rattle.std.proofs.Common.{length, ◌-◌, ◌≤◌, All, take}
use Rattle.dym_wave.specs.Parts.{IsSumOfRun}
use Rattle.dym_wave.proofs.quotas.largest_wave.Given as goal

abbrev pub invariant-loop-from : goal.invariant-loop-from
invariant-loop-from l = record {
  inside : l.from ≤ length l.quotas;
  enough : All (λ q. q ≤ l.largest) (take l.from l.quotas);
  most : l.largest ≤ l.segments;
  needed : IsSumOfRun l.quotas l.largest;
}

abbrev pub decreases-loop-from : goal.decreases-loop-from
decreases-loop-from l = length l.quotas - l.from
