use Rattle.std.proofs.Common.{◌*◌, ◌/◌, length, ap, arith, get_or, set, bit_or, ◌%◌, ◌^◌}
use Rattle.dym_base.specs.HeapStep.{key}
use Rattle.dym_undo.specs.Keys.{with_stamp}
use Rattle.dym_undo.proofs.Stamping.{word_below}
use Rattle.dym_undo.proofs.stamps.stamp.Goals as goal

pub bounds-words-bit : goal.bounds-words-bit
bounds-words-bit c = omega (arith, c.stamp_bit-bit.ensures, word_below (length c.args.words.now / 64) (length c.args.words.now) (key c.args.handle) c.requires (omega arith))

pub bounds-words-bit-2 : goal.bounds-words-bit-2
bounds-words-bit-2 c = omega (arith, c.stamp_bit-bit.ensures, word_below (length c.args.words.now / 64) (length c.args.words.now) (key c.args.handle) c.requires (omega arith))

pub returns : goal.returns
unfolding with_stamp
returns c = ap (λ b. set c.args.words.now (b / 64) (bit_or (get_or c.args.words.now (b / 64) 0) (1 * 2 ^ (b % 64) % 2 ^ 64))) c.stamp_bit-bit.ensures
