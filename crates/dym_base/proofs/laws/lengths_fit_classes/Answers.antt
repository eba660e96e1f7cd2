use Rattle.dym_base.proofs.Sizes.{empty_sized, step_sized}
use Rattle.dym_base.proofs.laws.lengths_fit_classes.Goals as goal

pub returns-clause-start : goal.returns-clause-start
returns-clause-start c = empty_sized

pub returns-clause-step : goal.returns-clause-step
returns-clause-step c = step_sized
