use Rattle.std.proofs.Common.{arith}
use Rattle.dym_ckpt.proofs.Based.{based_by_areas}
use Rattle.dym_ckpt.proofs.record_order.is_based.Goals as goal

pub returns-clause-is : goal.returns-clause-is
returns-clause-is c _ b is_b from_b log is from =
    based_by_areas b log is (λ a within. c.loop-k.invariant b is_b from_b log is from a (omega (arith, c.area_count-k-end.ensures.count log is from)))
