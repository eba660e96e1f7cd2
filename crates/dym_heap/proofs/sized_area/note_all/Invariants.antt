use Rattle.std.proofs.Common.{◌≡◌, ℕ, ◌-◌, ◌<◌, ◌≤◌, get_or}
use Rattle.dym_bits.specs.Bits.{IsSet, IsClear}
use Rattle.dym_heap.proofs.sized_area.note_all.Given as goal

abbrev pub invariant-loop-i : goal.invariant-loop-i
invariant-loop-i l = record {
  small : l.from ≤ 2048;
  noted : (k : ℕ) → k < l.from → IsSet l.chunks k → get_or l.lengths.table.items k 0 ≡ l.len;
  others : (k : ℕ) → IsClear l.chunks k → get_or l.lengths.table.items k 0 ≡ get_or l.fn.lengths.table.items k 0;
}

abbrev pub decreases-loop-i : goal.decreases-loop-i
decreases-loop-i l = 2048 - l.from
