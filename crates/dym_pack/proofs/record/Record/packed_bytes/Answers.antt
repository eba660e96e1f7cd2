use Rattle.std.proofs.Common.{ap, sym, ◌∙◌}
use Rattle.dym_base.specs.Packed.{packs_by}
use Rattle.dym_pack.specs.Areas.{chunks_of, chunk_number, is_used_at}
use Rattle.dym_pack.specs.ParsedAreas.{packs_at}
use Rattle.dym_pack.proofs.Bitmaps.{bitmap_same}
use Rattle.dym_pack.proofs.record.Record.packed_bytes.Goals as goal

pub returns-in-Full-clause-is : goal.returns-in-Full-clause-is
returns-in-Full-clause-is c log rec same =
    let full = sym (c.kind.ensures log rec same) ∙ c.in-Full.is in
    c.use_map.ensures.is log rec same
    ∙ bitmap_same (chunks_of log.copy c.args.k) (is_used_at log.copy c.args.k) (packs_at log c.args.k) (λ i h. ap (λ d. packs_by d log.copy log.found (chunk_number log.copy c.args.k i)) (sym full))
