use Rattle.std.proofs.Common.{List, Bool, ◌+◌, ◌*◌, ◌/◌, ◌%◌, get_or, arith, subst, w64}
use Rattle.std.specs.Int.{bit_not, trailing_zeros}
use Rattle.dym_bits.proofs.Searches.{from_bit, next_clear_in_rest, next_clear_in_word, none_clear_from}
use Rattle.dym_bits.specs.Bits.{IsNextClear}
use Rattle.dym_bits.proofs.bitmap.Bits.next_clear.Goals as goal

pub returns-then-rest-ne0 : goal.returns-then-rest-ne0
returns-then-rest-ne0 c =
    let Found : List Bool → Type 0 = λ bits. IsNextClear bits c.args.from (c.args.from / 64 * 64 + trailing_zeros w64 (from_bit (bit_not w64 (get_or c.self.inside.words (c.args.from / 64) 0)) (c.args.from % 64))) in
    subst Found c.self.view_is
    (next_clear_in_rest c.self.inside.words c.args.from (omega arith) (omega arith) c.if-rest-ne0.true)

pub returns-then-word : goal.returns-then-word
returns-then-word c =
    let at = c.trailing_ones.ensures in
    rw (at, ← c.self.view_is)
    (next_clear_in_word c.self.inside.words c.args.from (omega arith) c.loop-q.q (omega arith) (omega arith) c.if-rest-ne0.false c.loop-q.invariant (omega arith))

pub returns : goal.returns
returns c k at_least below =
    rw (← c.self.view_is)
    (none_clear_from c.self.inside.words c.args.from (omega arith) c.if-rest-ne0.false (λ p after before. c.loop-q.invariant p after (omega arith)) k at_least (omega arith))
