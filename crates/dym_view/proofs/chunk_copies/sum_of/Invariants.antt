use Rattle.std.proofs.Common.{◌≡◌, ◌*◌, ◌≤◌, sum, take}
use Rattle.dym_view.proofs.chunk_copies.sum_of.Given as goal

abbrev pub invariant-loop-byte : goal.invariant-loop-byte
invariant-loop-byte l = record {
  total : l.total ≡ sum (take l.byte-index l.bytes);
  small : l.total ≤ 255 * l.byte-index;
}
