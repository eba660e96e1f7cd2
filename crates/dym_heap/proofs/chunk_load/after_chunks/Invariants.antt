use Rattle.std.proofs.Common.{◌≡◌, ℕ, ◌-◌, ◌≤◌, List, length, drop}
use Rattle.dym_heap.specs.Bodies.{BeginsWithChunks}
use Rattle.dym_heap.proofs.Skips.{Left}
use Rattle.dym_heap.proofs.chunk_load.after_chunks.Given as goal

abbrev pub invariant-loop : goal.invariant-loop
invariant-loop l = record {
  within : l.place ≤ length l.body;
  passed : (chunks : List (List ℕ)) (rest : List ℕ) → length chunks ≡ l.count → BeginsWithChunks (drop l.at l.body) chunks rest → Left l.body l.place rest (l.count - l.counter);
}
