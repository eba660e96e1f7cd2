-- Up to 20 digits are parsed as their number.
use Rattle.std.proofs.Common.{arith, ◌∙◌}
use Rattle.std.proofs.lemmas.Grind.{common_steps}
use Rattle.dym_words.proofs.Parsed.{parsed}
use Rattle.dym_words.proofs.number.read_number.Goals as goal

pub returns : goal.returns
returns c = c.ok.ensures.value ∙ parsed c.args.word.now c.parse.result (grind (arith, common_steps)) (omega arith) c.parse.ensures.value.0
