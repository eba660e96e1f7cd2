use Rattle.warp_base.proofs.Settled.{states_are_real}
use Rattle.warp_base.proofs.laws.settled_states_are_real.Goals as goal

pub returns : goal.returns
returns g c = λ b n last past events early ran ahead starts h beyond p k.
    states_are_real g.P.Payload.words g.met.P.Payload.tells_apart b ahead n last past events early ran starts h beyond p k
