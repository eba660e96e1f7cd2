use Rattle.std.proofs.Common.{◌∙◌, ap, arith}
use Rattle.std.proofs.lemmas.List.{take_all}
use Rattle.dym_bits.specs.Bits.{set_count}
use Rattle.dym_bits.proofs.bitmap.Bits.count.Goals as goal

pub returns : goal.returns
returns c = c.count_below.ensures.counted ∙ ap set_count (take_all 2048 c.args.self.now (omega arith))
