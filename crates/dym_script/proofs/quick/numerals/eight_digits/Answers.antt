use Rattle.std.proofs.Common.{refl, ◌∙◌}
use Rattle.dym_script.proofs.Fronts.{values_value}
use Rattle.dym_script.proofs.quick.numerals.eight_digits.Goals as goal

pub returns-clause-value : goal.returns-clause-value
returns-clause-value c = c.weighted_sum.ensures
    ∙ values_value c.args.values _ _ _ _ c.to_le_bytes.result (c.if-not-are_values.ensures.few refl) (c.if-not-are_values.ensures.digits refl)
    c.to_le_bytes.ensures refl refl refl refl
