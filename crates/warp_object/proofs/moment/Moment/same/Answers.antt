use Rattle.std.proofs.Common.{ℕ, ap}
use Rattle.dym_base.specs.Heaps.{Live}
use Rattle.warp_object.specs.Moments.{moment}
use Rattle.warp_object.proofs.moment.Moment.same.Goals as goal

pub returns : goal.returns
returns c = ap (λ (v : ℕ × Live). moment v.0 v.1) c.like.ensures
