use Rattle.warp_base.proofs.Folds.{nothing_beyond}
use Rattle.warp_base.proofs.laws.nothing_is_sent_beyond.Goals as goal

pub returns : goal.returns
returns g c = λ b n p es h. nothing_beyond b n p es h
