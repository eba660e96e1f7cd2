use Rattle.std.proofs.Common.{◌≡◌, ℕ, ◌≤◌, ◌-◌, length}
use Rattle.dym_chain.specs.Differences.{difference_at}
use Rattle.dym_chain.proofs.differences.pad.Given as goal

abbrev pub invariant-loop-differences : goal.invariant-loop-differences
invariant-loop-differences l = record {
  few : length l.differences.items ≤ l.count;
  same : (k : ℕ) → difference_at l.differences.items k ≡ difference_at l.fn.differences.items k;
}

abbrev pub decreases-loop-differences : goal.decreases-loop-differences
decreases-loop-differences l = l.count - length l.differences.items
