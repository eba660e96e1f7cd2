use Rattle.std.proofs.Common.{refl, sym}
use Rattle.warp_worker.proofs.told.next_time_of.Goals as goal

pub returns-in-Some-clause-some : goal.returns-in-Some-clause-some
returns-in-Some-clause-some g c = (c.in-Some.event.now, sym c.in-Some.ensures, refl)
