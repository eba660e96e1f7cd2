-- One case for each size.
use Rattle.std.proofs.Common.{◌≡◌, refl, arith}
use Rattle.dym_io.proofs.Digits.{two_digits, three_digits}
use Rattle.dym_gen.proofs.word.size.Goals as goal
use Rattle.dym_gen.proofs.word.size.Goals.{in-0, in-1, in-2, in_default}

pub returns : goal.returns
returns c =
    elim c.match-draw.branch [
      | in-0 w ↦ rw (w.result-is, w.in-0.is, two_digits 32 (omega arith) (omega arith)) refl
      | in-1 w ↦ rw (w.result-is, w.in-1.is, two_digits 64 (omega arith) (omega arith)) refl
      | in-2 w ↦ rw (w.result-is, w.in-2.is, three_digits 128 (omega arith) (omega arith)) refl
      | in_default w ↦ let last : c.args.draw ≡ 3 = omega arith in rw (w.result-is, last, three_digits 256 (omega arith) (omega arith)) refl
    ]
