use Rattle.dym_base.proofs.Runs.{reached_before}
use Rattle.dym_base.proofs.laws.reached_are_before.Goals as goal

pub returns : goal.returns
returns c = reached_before
