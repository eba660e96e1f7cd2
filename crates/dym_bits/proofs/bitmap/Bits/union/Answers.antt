use Rattle.std.proofs.Common.{arith}
use Rattle.dym_bits.proofs.BitmapLemmas.{length_of_words}
use Rattle.dym_bits.proofs.bitmap.Bits.union.Goals as goal

pub returns-clause-len : goal.returns-clause-len
returns-clause-len c = length_of_words c.words_union.result (omega arith)
