use Rattle.std.proofs.Common.{List, Bool, ◌+◌, ◌*◌, ◌/◌, ◌%◌, get_or, arith, subst, w64}
use Rattle.std.specs.Int.{bit_not, trailing_zeros}
use Rattle.dym_bits.proofs.Searches.{from_bit, next_clear_here, set_here}
use Rattle.dym_bits.specs.Bits.{IsNextClearInWord}
use Rattle.dym_bits.proofs.bitmap.Bits.next_clear_in_word.Goals as goal

pub returns-then-rest-eq0 : goal.returns-then-rest-eq0
returns-then-rest-eq0 c k at_least same =
    rw (← c.self.view_is)
    (set_here c.self.inside.words c.args.from (omega arith) (omega arith) c.if-rest-eq0.true k at_least same)

pub returns : goal.returns
returns c =
    let Found : List Bool → Type 0 = λ bits. IsNextClearInWord bits c.args.from (c.args.from / 64 * 64 + trailing_zeros w64 (from_bit (bit_not w64 (get_or c.self.inside.words (c.args.from / 64) 0)) (c.args.from % 64))) in
    subst Found c.self.view_is
    (next_clear_here c.self.inside.words c.args.from (omega arith) (omega arith) c.if-rest-eq0.false)
