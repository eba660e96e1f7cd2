use Rattle.std.proofs.Common.{◌≡◌, ◌*◌, ◌≤◌, sum, take}
use Rattle.dym_heap.proofs.byte_sum.sum_bytes.Given as goal

abbrev pub invariant-loop-byte : goal.invariant-loop-byte
invariant-loop-byte l = record {
  total : l.total ≡ sum (take l.byte-index l.bytes);
  small : l.total ≤ 255 * l.byte-index;
}
