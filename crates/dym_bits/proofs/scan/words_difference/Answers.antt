use Rattle.std.proofs.Common.{◌<◌, ◌^◌, get_or, ap, refl, ◌∙◌, arith, bit_and, w64, not, ◌&&◌}
use Rattle.std.proofs.lemmas.List.{length-set}
use Rattle.std.proofs.lemmas.Nat.{and_le_l}
use Rattle.std.specs.Int.{bit_not}
use borrow.Author.Count.{below_more}
use Rattle.dym_bits.specs.Bits.{digit}
use Rattle.dym_bits.proofs.WordByWord.{digit_without, each_more, zero_of_zero, bits_by}
use Rattle.dym_bits.proofs.scan.words_difference.Goals as goal

pub loop-q-preserved : goal.loop-q-preserved
loop-q-preserved c = record {
  long = length-set c.loop-q.joined _ _ ∙ c.loop-q.invariant.long;
  each = let long = c.loop-q.invariant.long in each_more (λ a b. bit_and a (bit_not w64 b)) c.args.words.now c.args.others.now c.loop-q.joined c.loop-q.q _ (omega arith) refl c.loop-q.invariant.each;
  fits = below_more (λ p. get_or c.args.others.now p 0 < 2 ^ 64) c.loop-q.q c.loop-q.invariant.fits (omega arith);
}

pub returns-clause-bits : goal.returns-clause-bits
returns-clause-bits c =
    let long = c.loop-q.invariant.long in
    bits_by (λ a b. a && not b) refl c.args.words.now c.args.others.now c.loop-q.joined (omega arith) (omega arith)
    (λ p r within short. ap (λ n. digit n r) (c.loop-q.invariant.each p (omega arith)) ∙ digit_without (get_or c.args.words.now p 0) (get_or c.args.others.now p 0) r (c.loop-q.invariant.fits p (omega arith)) short)

pub returns-clause-rest : goal.returns-clause-rest
returns-clause-rest c n none p past =
    zero_of_zero (λ a b. bit_and a (bit_not w64 b)) c.args.words.now c.args.others.now c.loop-q.joined c.loop-q.q (omega arith) c.loop-q.invariant.each p
    (let less = and_le_l (get_or c.args.words.now p 0) (bit_not w64 (get_or c.args.others.now p 0)) in omega (arith, none p past))
