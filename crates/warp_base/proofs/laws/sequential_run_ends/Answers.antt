use Rattle.warp_base.proofs.Ends.{ends}
use Rattle.warp_base.proofs.laws.sequential_run_ends.Goals as goal

pub returns : goal.returns
returns g c = λ b n end histories ahead starts h beyond.
    ends g.P.Payload.words g.met.P.Payload.tells_apart b ahead n end histories starts h beyond
