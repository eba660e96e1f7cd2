use Rattle.std.proofs.Common.{length, ap, arith}
use Rattle.dym_pack.specs.Layouts.{HasOffsets}
use Rattle.dym_pack.proofs.Laying.{places_count, bytes_end}
use Rattle.dym_pack.proofs.indexed_bytes.IndexedBytes.offset_count.Goals as goal

pub returns : goal.returns
returns c =
    let all = c.self.inside.all.items in
    let many = ap (λ (p : HasOffsets). length p.offsets) c.self.view_is in
    let end = ap (λ (p : HasOffsets). length p.bytes) c.self.view_is in
    omega (arith, many, end, bytes_end all c.self.invariant, places_count all, c.end.ensures, c.len.ensures, c.self.inside.all.ok)
