use Rattle.warp_base.proofs.Settled.{settled_is_final}
use Rattle.warp_base.proofs.laws.settled_is_final.Goals as goal

pub returns : goal.returns
returns g c = λ b bound later past events early later_past later_events later_early ran later_ran ahead few h k p.
    settled_is_final g.P.Payload.words g.met.P.Payload.tells_apart b ahead bound later past events early later_past later_events later_early ran later_ran few h k p
