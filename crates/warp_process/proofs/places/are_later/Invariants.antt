use Rattle.std.proofs.Common.{suc, take}
use Rattle.warp_base.specs.Events.{AreFrom}
use Rattle.warp_process.proofs.places.are_later.Given as goal

abbrev pub invariant-loop-event : goal.invariant-loop-event
invariant-loop-event g l = AreFrom (suc l.time) (take l.event-index l.events)
