-- One case for each count of digits.
use Rattle.std.proofs.Common.{refl, arith}
use Rattle.dym_io.proofs.Digits.{one_digit, two_digits, three_digits}
use Rattle.dym_io.proofs.text.word.digits.Goals as goal
use Rattle.dym_io.proofs.text.word.digits.Goals.{then-n-lt10, else-n-lt10+then-n-lt100, else-n-lt10+else-n-lt100}

pub returns-clause-text : goal.returns-clause-text
returns-clause-text c =
    elim c.if-n-lt10.branch [
      | then-n-lt10 w ↦ rw (w.result-is, c.digit-ones.ensures, one_digit c.args.n (omega arith)) refl
      | else-n-lt10+then-n-lt100 w ↦ rw (w.result-is, c.digit-ones.ensures, c.digit-tens.ensures, two_digits c.args.n (omega arith) (omega arith)) refl
      | else-n-lt10+else-n-lt100 w ↦ rw (w.result-is, c.digit-ones.ensures, c.digit-tens.ensures, c.digit-hundreds.ensures, three_digits c.args.n (omega arith) (omega arith)) refl
    ]
