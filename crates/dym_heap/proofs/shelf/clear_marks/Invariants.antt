use Rattle.std.proofs.Common.{◌≡◌, ℕ, ◌<◌, length}
use Rattle.dym_base.specs.declared.limits.TheConstants.{MOST_CHUNKS}
use Rattle.dym_bits.specs.Bits.{IsClear}
use Rattle.dym_heap.specs.Arrangement.{marks_of_class}
use Rattle.dym_heap.proofs.shelf.clear_marks.Given as goal

abbrev pub invariant-loop : goal.invariant-loop
invariant-loop l = record {
  made : length l.full.items ≡ l.counter;
  long : (c : ℕ) → c < l.counter → length (marks_of_class l.full.items c) ≡ MOST_CHUNKS;
  clear : (c o : ℕ) → c < l.counter → IsClear (marks_of_class l.full.items c) o;
}
