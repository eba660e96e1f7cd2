use Rattle.std.proofs.Common.{arith}
use Rattle.dym_bits.proofs.ByteBits.{word_of_filled}
use Rattle.dym_bits.proofs.bytes.word_of_few.Goals as goal

pub returns : goal.returns
returns c = word_of_filled c.copy_from_slice.new.self c.args.bytes.now c.copy_from_slice.ensures.after (λ k. omega (arith, c.type_inv.bytes k)) c.from_le_bytes.result c.requires c.from_le_bytes.ensures
