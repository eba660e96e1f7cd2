use Rattle.std.proofs.Common.{◌≡◌, ℕ, ◌+◌, ◌*◌, ◌≤◌}
use Rattle.dym_pack.specs.Areas.{logged}
use Rattle.dym_pack.specs.Offsets.{start_of}
use Rattle.dym_pack.proofs.packer.packed_len.Given as goal

abbrev pub invariant-loop-k : goal.invariant-loop-k
invariant-loop-k g l = record {
  few : l.len ≤ 13 + l.k * 131072;
  so_far : (time : ℕ) → l.len ≡ start_of (logged (g.A.Areas.meaning l.areas) l.kind time) l.k;
}
