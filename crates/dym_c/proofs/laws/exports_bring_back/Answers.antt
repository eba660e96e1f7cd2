use Rattle.dym_c.proofs.Runs.{bring_back}
use Rattle.dym_c.proofs.laws.exports_bring_back.Goals as goal

pub returns : goal.returns
returns c = bring_back c.restores_bring_back.ensures
