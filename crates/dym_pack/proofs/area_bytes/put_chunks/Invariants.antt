use Rattle.std.proofs.Common.{◌≡◌, ◌-◌, ◌≤◌, ◌++◌}
use Rattle.dym_pack.specs.Areas.{chunks_of, logged}
use Rattle.dym_pack.specs.ParsedAreas.{body_from}
use Rattle.dym_pack.proofs.area_bytes.put_chunks.Given as goal

abbrev pub invariant-loop-i : goal.invariant-loop-i
invariant-loop-i g l = record {
  within : l.from ≤ chunks_of (g.A.Areas.meaning l.areas).live l.k;
  so_far : l.out.items ++ body_from (logged (g.A.Areas.meaning l.areas) l.fn.kind 0) l.k l.from ≡ l.fn.out.items ++ body_from (logged (g.A.Areas.meaning l.areas) l.fn.kind 0) l.k 0;
}

abbrev pub decreases-loop-i : goal.decreases-loop-i
decreases-loop-i g l = 2048 - l.from
