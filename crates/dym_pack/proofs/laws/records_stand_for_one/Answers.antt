use Rattle.dym_pack.proofs.Single.{stand_single}
use Rattle.dym_pack.proofs.laws.records_stand_for_one.Goals as goal

pub returns : goal.returns
returns c = stand_single
