use Rattle.dym_script.proofs.Spelled.{counts_word}
use Rattle.dym_script.proofs.quick.numerals.any_digits.Goals as goal

pub returns : goal.returns
returns c = counts_word _ _ _ _ _ _ c.split_at.ensures.front c.split_at.ensures.back c.in_ok-number.ensures.value
