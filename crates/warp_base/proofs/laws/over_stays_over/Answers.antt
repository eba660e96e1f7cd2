use Rattle.warp_base.proofs.Sequential.{over_stays}
use Rattle.warp_base.proofs.laws.over_stays_over.Goals as goal

pub returns : goal.returns
returns g c = λ b n end steps more over. over_stays g.P.Payload.words b n end steps more over
