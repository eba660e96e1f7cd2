use Rattle.std.proofs.Common.{◌∙◌, ap, arith}
use Rattle.dym_base.specs.Packed.{bitmap_byte}
use Rattle.dym_bits.specs.Bits.{bit_in}
use Rattle.dym_bits.proofs.ByteBits.{byte_of_words}
use Rattle.dym_bits.proofs.bitmap.Bits.byte.Goals as goal

pub returns : goal.returns
returns c = byte_of_words c.self.inside.words c.args.k (omega arith) ∙ ap (λ bits. bitmap_byte (bit_in bits) c.args.k) c.self.view_is
