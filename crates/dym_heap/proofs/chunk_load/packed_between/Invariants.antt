use Rattle.std.proofs.Common.{◌≡◌, ◌-◌, length}
use Rattle.std.specs.List.{filter, range_with_len}
use Rattle.dym_bits.specs.Bits.{bit_in}
use Rattle.dym_heap.proofs.chunk_load.packed_between.Given as goal

abbrev pub invariant-loop-i : goal.invariant-loop-i
invariant-loop-i l = record {
  counted : l.count ≡ length (filter (bit_in l.packed) (range_with_len l.from (l.i - l.from)));
}
