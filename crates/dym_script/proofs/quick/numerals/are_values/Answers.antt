use Rattle.std.proofs.Common.{arith}
use Rattle.dym_script.proofs.Fronts.{values_digits}
use Rattle.dym_script.proofs.quick.numerals.are_values.Goals as goal

pub returns : goal.returns
returns c = record {
  digits = λ both. (values_digits c.args.values (omega arith) both).0;
  few = λ both. (values_digits c.args.values (omega arith) both).1;
}
