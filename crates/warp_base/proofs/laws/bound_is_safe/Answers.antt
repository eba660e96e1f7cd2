use Rattle.warp_base.proofs.Settled.{bound_is_safe}
use Rattle.warp_base.proofs.laws.bound_is_safe.Goals as goal

pub returns : goal.returns
returns g c = λ b n last past events early ran ahead starts h beyond.
    bound_is_safe g.P.Payload.words g.met.P.Payload.tells_apart b ahead n last past events early ran starts h beyond
