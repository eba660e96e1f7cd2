use Rattle.dym_slots.proofs.Steps.{step_keeps, step_counts}
use Rattle.dym_slots.proofs.laws.each_step_keeps_facts.Goals as goal

pub returns : goal.returns
returns _ e c d step facts = (step_keeps e c d step facts, step_counts e c d step)
