use Rattle.dym_chain.proofs.Belonging.{step_belongs}
use Rattle.dym_chain.proofs.laws.heap_steps_keep_belonging.Goals as goal

pub returns-clause-step : goal.returns-clause-step
returns-clause-step c = step_belongs
