use Rattle.dym_wave.proofs.Onward.{looked_still}
use Rattle.dym_wave.proofs.observed_run.run_beside.Goals as goal

pub returns-in_err-asker-clause-looked : goal.returns-in_err-asker-clause-looked
returns-in_err-asker-clause-looked g c = looked_still c.args.viewers.now.items
