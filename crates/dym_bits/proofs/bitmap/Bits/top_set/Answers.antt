use Rattle.std.proofs.Common.{arith}
use Rattle.dym_bits.proofs.Searches.{top_set_in_word, none_set}
use Rattle.dym_bits.proofs.bitmap.Bits.top_set.Goals as goal

pub returns-then-word-ne0 : goal.returns-then-word-ne0
returns-then-word-ne0 c =
    rw (← c.self.view_is)
    (top_set_in_word c.self.inside.words _ c.ilog2.result (omega arith) c.ilog2.ensures.bound c.ilog2.ensures.power_le c.ilog2.ensures.next_power_gt (λ p after. c.loop-q.invariant p (omega arith)))

pub returns : goal.returns
returns c k =
    rw (← c.self.view_is) (none_set c.self.inside.words (λ p. c.loop-q.invariant p (omega arith)) k)
