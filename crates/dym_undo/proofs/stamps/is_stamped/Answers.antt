use Rattle.std.proofs.Common.{◌/◌, length, ap, ◌∙◌, arith, get_or, ◌%◌, ◌==◌}
use Rattle.std.specs.Int.{bit_at}
use Rattle.std.proofs.lemmas.Nat.Bits.{shr_and_one}
use Rattle.dym_base.specs.HeapStep.{key}
use Rattle.dym_undo.specs.Keys.{is_stamped}
use Rattle.dym_undo.proofs.Stamping.{word_below}
use Rattle.dym_undo.proofs.stamps.is_stamped.Goals as goal

pub bounds-words-bit : goal.bounds-words-bit
bounds-words-bit c = omega (arith, c.stamp_bit-bit.ensures, word_below (length c.args.words.now / 64) (length c.args.words.now) (key c.args.handle) c.requires (omega arith))

pub returns : goal.returns
unfolding is_stamped
returns c =
    ap (λ n. n == 1) (shr_and_one (get_or c.args.words.now (c.stamp_bit-bit.result / 64) 0) (c.stamp_bit-bit.result % 64))
    ∙ ap (λ b. bit_at (get_or c.args.words.now (b / 64) 0) (b % 64) == 1) c.stamp_bit-bit.ensures
