use Rattle.std.proofs.Common.{◌≡◌, ◌<◌, ◌^◌, get_or, bit_and, w64, arith}
use Rattle.std.specs.Int.{bit_not}
use Rattle.std.proofs.lemmas.Nat.{and_le_l}
use borrow.Author.Count.{below_more}
use Rattle.dym_bits.proofs.Subsets.{set_within, set_outside}
use Rattle.dym_bits.proofs.scan.words_within.Goals as goal

pub loop-q-preserved : goal.loop-q-preserved
loop-q-preserved c = record {
  none = below_more (λ p. bit_and (get_or c.args.words.now p 0) (bit_not w64 (get_or c.args.others.now p 0)) ≡ 0) c.loop-q.q c.loop-q.invariant.none c.if-words-q-ne0.false;
  fits = below_more (λ p. get_or c.args.others.now p 0 < 2 ^ 64) c.loop-q.q c.loop-q.invariant.fits (omega arith);
}

pub returns-then-words-q-ne0-clause-outside : goal.returns-then-words-q-ne0-clause-outside
returns-then-words-q-ne0-clause-outside c is =
    let less = and_le_l (get_or c.args.words.now c.loop-q.q 0) (bit_not w64 (get_or c.args.others.now c.loop-q.q 0)) in
    set_outside c.args.words.now c.args.others.now c.loop-q.q (omega arith) (omega arith) (omega arith) (omega arith) c.if-words-q-ne0.true

pub returns-clause-within : goal.returns-clause-within
returns-clause-within c is =
    set_within c.args.words.now c.args.others.now c.args.used (omega arith) (omega arith) c.requires.rest (λ p below. c.loop-q.invariant.fits p (omega arith)) (λ p below. c.loop-q.invariant.none p (omega arith))
