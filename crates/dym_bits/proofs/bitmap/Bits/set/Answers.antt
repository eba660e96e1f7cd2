use Rattle.std.proofs.Common.{◌∙◌, ap, arith, set, true, length-set}
use Rattle.dym_bits.proofs.BitmapLemmas.{word_with_bit, length_of_words}
use Rattle.dym_bits.proofs.bitmap.Bits.set.Goals as goal

pub returns-clause-after : goal.returns-clause-after
returns-clause-after c = word_with_bit c.self.inside.words c.args.i (omega arith) ∙ ap (λ bits. set bits c.args.i true) c.self.view_is

pub returns-clause-len : goal.returns-clause-len
returns-clause-len c = length_of_words _ (length-set c.self.inside.words _ _ ∙ c.self.told)
