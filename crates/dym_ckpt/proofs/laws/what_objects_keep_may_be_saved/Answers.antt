use Rattle.dym_ckpt.proofs.WithinQuotas.{start_is_within, steps_keep_within, runs_are_within, loaded_is_within, within_may_be_saved}
use Rattle.dym_ckpt.proofs.laws.what_objects_keep_may_be_saved.Goals as goal

pub returns-clause-start : goal.returns-clause-start
returns-clause-start c = start_is_within

pub returns-clause-step : goal.returns-clause-step
returns-clause-step c = steps_keep_within

pub returns-clause-run : goal.returns-clause-run
returns-clause-run c = runs_are_within

pub returns-clause-loaded : goal.returns-clause-loaded
returns-clause-loaded c = loaded_is_within

pub returns-clause-saved : goal.returns-clause-saved
returns-clause-saved c = within_may_be_saved
