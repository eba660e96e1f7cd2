use Rattle.std.proofs.Common.{◌≡◌, ◌+◌, ◌≤◌, map}
use Rattle.std.specs.List.{range_with_len}
use Rattle.dym_pack.specs.Areas.{logged}
use Rattle.dym_pack.specs.Offsets.{front, start_of}
use Rattle.dym_pack.proofs.packer.pack.Given as goal

abbrev pub invariant-loop-k : goal.invariant-loop-k
invariant-loop-k g l = record {
  done : l.bytes.items ≡ front (logged (g.A.Areas.meaning l.areas) l.fn.kind l.fn.time) l.k;
  placed : l.starts.items ≡ map (start_of (logged (g.A.Areas.meaning l.areas) l.fn.kind l.fn.time)) (range_with_len 0 l.k);
  room : l.count + 1 ≤ l.starts.capacity;
}
