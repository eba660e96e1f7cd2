use Rattle.std.proofs.Common.{◌∙◌}
use Rattle.dym_pack.proofs.Chunks.{count_is}
use Rattle.dym_pack.proofs.record.Record.area.Goals as goal

pub returns-clause-packed : goal.returns-clause-packed
returns-clause-packed c log rec same = c.count.ensures ∙ count_is log c.args.k c.packed_bits.result (c.packed_bits.ensures log rec same)
