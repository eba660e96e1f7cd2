use Rattle.dym_base.proofs.Restoring.{brings_back}
use Rattle.dym_base.proofs.laws.restores_bring_back.Goals as goal

pub returns : goal.returns
returns c = brings_back
