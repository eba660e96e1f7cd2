use Rattle.std.proofs.Common.{ℕ, ◌-◌, ◌≤◌, List, length, drop}
use Rattle.dym_pack.specs.ParsedAreas.{IsNth}
use Rattle.dym_pack.proofs.walk.chunk_after.Given as goal

abbrev pub invariant-loop-i : goal.invariant-loop-i
invariant-loop-i l = record {
  within : l.at ≤ length l.bytes;
  left : (x : List ℕ) → IsNth l.bytes l.n x → IsNth (drop l.at l.bytes) (l.n - l._i) x;
}
