use Rattle.std.proofs.Common.{◌*◌, ◌/◌, length, ap, arith, get_or, set, bit_and, w64, ◌%◌, ◌^◌}
use Rattle.std.specs.Int.{bit_not}
use Rattle.dym_base.specs.HeapStep.{key}
use Rattle.dym_undo.specs.Keys.{without_stamp}
use Rattle.dym_undo.proofs.Stamping.{word_below}
use Rattle.dym_undo.proofs.stamps.unstamp.Goals as goal

pub bounds-words-bit : goal.bounds-words-bit
bounds-words-bit c = omega (arith, c.stamp_bit-bit.ensures, word_below (length c.args.words.now / 64) (length c.args.words.now) (key c.args.handle) c.requires (omega arith))

pub bounds-words-bit-2 : goal.bounds-words-bit-2
bounds-words-bit-2 c = omega (arith, c.stamp_bit-bit.ensures, word_below (length c.args.words.now / 64) (length c.args.words.now) (key c.args.handle) c.requires (omega arith))

pub returns : goal.returns
unfolding without_stamp
returns c = ap (λ b. set c.args.words.now (b / 64) (bit_and (get_or c.args.words.now (b / 64) 0) (bit_not w64 (1 * 2 ^ (b % 64) % 2 ^ 64)))) c.stamp_bit-bit.ensures
