-- A run of objects, one after another, whose quotas fit into some segments.
use Rattle.std.specs.Prelude.{ℕ, ◌≤◌, List, length, sum, slice_range}

-- the run from `from` to `end` fits, and so does no longer one
pub record IsLongestRun (quotas : List ℕ) (segments from end : ℕ) : Type 0 where
  pub inside : end ≤ length quotas
  pub fits : sum (slice_range quotas from end) ≤ segments
  pub longest : (other : ℕ) → other ≤ length quotas → sum (slice_range quotas from other) ≤ segments → other ≤ end
