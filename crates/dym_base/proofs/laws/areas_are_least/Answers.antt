use Rattle.dym_base.proofs.Heaps.{areas_below}
use Rattle.dym_base.proofs.laws.areas_are_least.Goals as goal

pub returns : goal.returns
returns c = areas_below
