use Rattle.std.proofs.Common.{arith}
use Rattle.dym_bits.proofs.Searches.{next_set_in_rest, next_set_in_word, none_set_within}
use Rattle.dym_bits.proofs.scan.next_set_in.Goals as goal

pub returns-then-from-limit : goal.returns-then-from-limit
returns-then-from-limit c k at_least = c.requires.clear k (omega arith)

pub returns-then-rest-ne0 : goal.returns-then-rest-ne0
returns-then-rest-ne0 c =
    next_set_in_rest c.args.words.now c.args.from (omega arith) (omega arith) c.if-rest-ne0.true

pub returns-then-word-ne0 : goal.returns-then-word-ne0
returns-then-word-ne0 c =
    next_set_in_word c.args.words.now c.args.from c.loop-q.q (omega arith) (omega arith) (omega arith) c.if-rest-ne0.false c.loop-q.invariant c.if-word-ne0.true (omega arith)

pub returns : goal.returns
returns c k at_least =
    none_set_within c.args.words.now c.args.from c.args.limit c.div_ceil-q-end.result (omega arith) (omega (arith, c.div_ceil-q-end.ensures)) (omega arith) c.if-rest-ne0.false (λ p after before. c.loop-q.invariant p after (omega arith)) c.requires.clear k at_least
