use Rattle.warp_base.proofs.Histories.{history_is_one}
use Rattle.warp_base.proofs.laws.histories_are_one.Goals as goal

pub returns : goal.returns
returns g c = λ b bound one other ahead h k p.
    history_is_one g.P.Payload.words g.met.P.Payload.tells_apart b ahead bound one other h k p
