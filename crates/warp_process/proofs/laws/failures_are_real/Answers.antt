use Rattle.warp_process.proofs.Faults.{failure_is_real}
use Rattle.warp_process.proofs.laws.failures_are_real.Goals as goal

pub returns : goal.returns
returns g c b past f h = failure_is_real g.P.Payload.words b past f h
