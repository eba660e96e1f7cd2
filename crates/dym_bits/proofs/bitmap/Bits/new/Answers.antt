use Rattle.std.proofs.Common.{◌∙◌, ap, arith, get_or, length, false}
use Rattle.dym_bits.proofs.BitmapLemmas.{bits_of-replicate, length-clear_bits, get_or-clear_bits}
use Rattle.dym_bits.proofs.UsedWords.{zero_of_zeros}
use Rattle.dym_bits.proofs.bitmap.Bits.new.Goals as goal

pub invariant_of-result : goal.invariant_of-result
invariant_of-result c = (omega arith, λ q _. zero_of_zeros 32 q)

pub returns-clause-clear : goal.returns-clause-clear
returns-clause-clear c = bits_of-replicate 64 32 (omega arith)

pub returns-clause-len : goal.returns-clause-len
returns-clause-len c = ap length (bits_of-replicate 64 32 (omega arith)) ∙ length-clear_bits 2048

pub returns-clause-none : goal.returns-clause-none
returns-clause-none c k = ap (λ bits. get_or bits k false) (bits_of-replicate 64 32 (omega arith)) ∙ get_or-clear_bits 2048 k
