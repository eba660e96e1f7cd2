use Rattle.dym_late.proofs.Ordered.{stand_in_order}
use Rattle.dym_late.proofs.laws.events_stand_in_order.Goals as goal

pub returns : goal.returns
returns c = stand_in_order
