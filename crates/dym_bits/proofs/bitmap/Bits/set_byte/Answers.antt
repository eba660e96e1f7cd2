use Rattle.std.proofs.Common.{◌+◌, ◌*◌, ◌++◌, take, drop, set, get_or, ◌∙◌, ap, arith}
use Rattle.dym_bits.specs.Bits.{bits_of, digits}
use Rattle.std.proofs.Common.{◌/◌, ◌%◌}
use Rattle.dym_bits.proofs.BitmapLemmas.{length_of_words}
use Rattle.std.proofs.lemmas.List.{length-set}
use Rattle.dym_bits.proofs.ByteBits.{bits_with_byte, with_byte}
use Rattle.dym_bits.proofs.bitmap.Bits.set_byte.Goals as goal

pub returns-clause-after : goal.returns-clause-after
returns-clause-after c =
    ap (λ v. bits_of 64 (set c.self.inside.words (c.args.k / 8) (with_byte (get_or c.self.inside.words (c.args.k / 8) 0) (c.args.k % 8 * 8) v))) c.from.ensures
    ∙ bits_with_byte c.self.inside.words c.args.k c.args.v (omega arith) (omega arith)
    ∙ ap (λ bits. take (8 * c.args.k) bits ++ digits 8 c.args.v ++ drop (8 * c.args.k + 8) bits) c.self.view_is

pub returns-clause-len : goal.returns-clause-len
returns-clause-len c = length_of_words _ (length-set c.self.inside.words _ _ ∙ c.self.told)
