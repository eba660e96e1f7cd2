use Rattle.dym_object.proofs.Steps.{steps_keep}
use Rattle.dym_object.proofs.laws.steps_keep_whole.Goals as goal

pub returns : goal.returns
returns c = steps_keep c.heap_steps_keep_belonging.ensures.step
