use Rattle.std.proofs.Common.{◌≡◌, take}
use Rattle.warp_base.specs.Events.{copies}
use Rattle.warp_process.proofs.places.find_copy.Given as goal

abbrev pub invariant-loop-place : goal.invariant-loop-place
invariant-loop-place g l = copies g.P.Payload.words l.event (take l.place l.events) ≡ 0
