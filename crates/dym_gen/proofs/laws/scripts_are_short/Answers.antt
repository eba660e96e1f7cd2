use Rattle.dym_gen.proofs.Lengths.{generated-lt}
use Rattle.dym_gen.proofs.laws.scripts_are_short.Goals as goal

pub returns : goal.returns
returns c = generated-lt
