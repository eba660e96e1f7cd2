use Rattle.std.proofs.Common.{ap, ◌∙◌}
use Rattle.dym_pack.specs.Areas.{area_at, chunks_of}
use Rattle.dym_pack.specs.ParsedAreas.{packs_at}
use Rattle.dym_bits.specs.Bits.{bit_in, bits_of_bytes}
use Rattle.dym_pack.proofs.Bitmaps.{bits_of_bitmap}
use Rattle.dym_pack.proofs.Named.{area_is}
use Rattle.dym_pack.proofs.Unique.{per_room}
use Rattle.dym_pack.proofs.record.Record.choice.Goals as goal

pub returns-clause-bits : goal.returns-clause-bits
returns-clause-bits c log rec same i =
    let is = area_is log.copy c.args.k (c.requires log rec same) in
    c.set_bytes.ensures.bits i
    ∙ ap (λ bytes. bit_in (bits_of_bytes bytes) i) (c.packed_bytes.ensures.is log rec same)
    ∙ bits_of_bitmap (chunks_of log.copy c.args.k) (packs_at log c.args.k) i (per_room (area_at log.copy c.args.k).exponent is.least is.most)

pub returns-clause-is : goal.returns-clause-is
returns-clause-is c = (c.whole-whole.ensures.is.0, c.whole-whole.ensures.is.1, c.whole-whole.ensures.is.2 ∙ c.whole-whole.ensures.same)
