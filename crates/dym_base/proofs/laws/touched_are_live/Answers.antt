use Rattle.dym_base.proofs.Touched.{empty_touches, step_touches}
use Rattle.dym_base.proofs.laws.touched_are_live.Goals as goal

pub returns-clause-start : goal.returns-clause-start
returns-clause-start c = empty_touches

pub returns-clause-step : goal.returns-clause-step
returns-clause-step c = step_touches
