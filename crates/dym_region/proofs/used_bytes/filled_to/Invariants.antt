use Rattle.std.proofs.Common.{◌≡◌, ◌-◌, ◌≤◌, vec_len, vec_capacity}
use Rattle.std_alloc.specs.Vec.{vec_ptr}
use Rattle.dym_region.specs.Content.{zeros_behind}
use Rattle.dym_region.proofs.used_bytes.filled_to.Given as goal

abbrev pub invariant-loop-bytes : goal.invariant-loop-bytes
invariant-loop-bytes g l = record {
  content : zeros_behind (vec_capacity l.bytes) l.bytes.items ≡ zeros_behind (vec_capacity l.fn.bytes) l.fn.bytes.items;
  more : vec_len l.fn.bytes ≤ vec_len l.bytes;
  room : vec_capacity l.bytes ≡ vec_capacity l.fn.bytes;
  place : vec_ptr l.bytes ≡ vec_ptr l.fn.bytes;
}

abbrev pub decreases-loop-bytes : goal.decreases-loop-bytes
decreases-loop-bytes g l = l.to - vec_len l.bytes
