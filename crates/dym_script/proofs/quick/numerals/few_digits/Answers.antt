use Rattle.std.proofs.Common.{refl}
use Rattle.dym_script.proofs.Fronts.{counts_few}
use Rattle.dym_script.proofs.quick.numerals.few_digits.Goals as goal

pub returns : goal.returns
returns c = counts_few _ _ _ _ _ c.in_ok-values.ensures c.in_ok-value.ensures.digits c.in_ok-value.ensures.value refl
