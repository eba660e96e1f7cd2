use Rattle.std.proofs.Common.{arith}
use Rattle.std.proofs.lemmas.Grind.{common_steps}
use Rattle.dym_words.proofs.Texts.{values_of-map}
use Rattle.dym_words.proofs.options.values.Goals as goal

pub returns-in_err-at : goal.returns-in_err-at
returns-in_err-at c = rw values_of-map (grind (arith, common_steps))

pub returns : goal.returns
returns c = rw values_of-map (grind (arith, common_steps))
