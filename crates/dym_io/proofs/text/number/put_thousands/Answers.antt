-- The last three digits are put behind those before.
use Rattle.std.proofs.Common.{append_assoc}
use Rattle.dym_io.proofs.Digits.{last_digits}
use Rattle.dym_io.proofs.text.number.put_thousands.Goals as goal

pub returns-clause-text : goal.returns-clause-text
returns-clause-text c = simp (c.put_text.ensures.text, c.put_short-end.ensures.text, c.digit.ensures, c.digit-2.ensures, c.digit-3.ensures, last_digits c.args.n c.requires.large c.requires.small, append_assoc)
