use Rattle.std.proofs.Common.{◌≡◌, ℕ, ◌+◌, ◌≤◌, ◌<◌, length, get_or}
use Rattle.dym_heap.proofs.chunk_location.shift_down.Given as goal

abbrev pub invariant-loop-d : goal.invariant-loop-d
invariant-loop-d l = record {
  len : length l.starts ≡ length l.fn.starts;
  low : (k : ℕ) → k ≤ l.rank → get_or l.starts k 0 ≡ get_or l.fn.starts k 0;
  done : (k : ℕ) → l.rank < k → k < l.d → get_or l.starts k 0 + 1 ≡ get_or l.fn.starts k 0;
  rest : (k : ℕ) → l.d ≤ k → get_or l.starts k 0 ≡ get_or l.fn.starts k 0;
}
