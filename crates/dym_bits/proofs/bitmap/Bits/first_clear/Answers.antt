use Rattle.std.proofs.Common.{arith}
use Rattle.dym_bits.proofs.Searches.{first_clear_found, set_before_clear, none_clear}
use Rattle.dym_bits.proofs.bitmap.Bits.first_clear.Goals as goal

pub returns-then-i-limit : goal.returns-then-i-limit
returns-then-i-limit c =
    let at = c.trailing_ones.ensures in
    rw (at, ← c.self.view_is)
    (first_clear_found c.self.inside.words c.loop-q.q c.args.limit (omega arith) (omega arith) c.loop-q.invariant (omega arith))

pub returns-else-i-limit : goal.returns-else-i-limit
returns-else-i-limit c k below =
    rw (← c.self.view_is) (set_before_clear c.self.inside.words c.loop-q.q (omega arith) (omega arith) c.loop-q.invariant k (omega arith))

pub returns : goal.returns
returns c k below =
    rw (← c.self.view_is) (none_clear c.self.inside.words c.args.limit (omega arith) (λ p before. c.loop-q.invariant p (omega arith)) k below)
