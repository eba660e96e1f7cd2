use Rattle.dym_object.proofs.Ends.{goes_on}
use Rattle.dym_object.proofs.laws.runs_go_on.Goals as goal

pub returns-clause-start : goal.returns-clause-start
returns-clause-start c o object base_logs = record { object = object; base_logs = base_logs }

pub returns-clause-step : goal.returns-clause-step
returns-clause-step c = goes_on
