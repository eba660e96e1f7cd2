use Rattle.std.proofs.Common.{◌≡◌, ◌+◌, ◌-◌, ◌≤◌, length, sum, slice_range}
use Rattle.dym_quota.proofs.longest_run.waves.Given as goal

abbrev pub invariant-loop-end : goal.invariant-loop-end
invariant-loop-end l = record {
  begun : l.from ≤ l.end;
  inside : l.end ≤ length l.quotas;
  sums : sum (slice_range l.quotas l.from l.end) + l.left ≡ l.segments;
}

abbrev pub decreases-loop-end : goal.decreases-loop-end
decreases-loop-end l = length l.quotas - l.end
