use Rattle.std.proofs.Common.{◌∙◌, ap, arith, get_or, false}
use Rattle.dym_bits.proofs.BitmapLemmas.{word_bit}
use Rattle.dym_bits.proofs.bitmap.Bits.get.Goals as goal

pub returns : goal.returns
returns c = word_bit c.self.inside.words c.args.i (omega arith) ∙ ap (λ bits. get_or bits c.args.i false) c.self.view_is
