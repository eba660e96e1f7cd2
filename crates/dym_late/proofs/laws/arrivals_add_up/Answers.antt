use Rattle.dym_late.proofs.Ordered.{add_up}
use Rattle.dym_late.proofs.laws.arrivals_add_up.Goals as goal

pub returns : goal.returns
returns c = add_up
