use Rattle.std.proofs.Common.{get_or, ap, refl, ◌∙◌, arith, bit_and, ◌&&◌}
use Rattle.std.proofs.lemmas.List.{length-set}
use Rattle.std.proofs.lemmas.Nat.{and_le_l, and_le_r}
use Rattle.dym_bits.specs.Bits.{digit}
use Rattle.dym_bits.proofs.WordByWord.{digit_and, each_more, zero_of_zero, bits_by}
use Rattle.dym_bits.proofs.scan.words_intersection.Goals as goal

pub loop-q-preserved : goal.loop-q-preserved
loop-q-preserved c = record {
  long = length-set c.loop-q.joined _ _ ∙ c.loop-q.invariant.long;
  each = let long = c.loop-q.invariant.long in each_more (λ a b. bit_and a b) c.args.words.now c.args.others.now c.loop-q.joined c.loop-q.q _ (omega arith) refl c.loop-q.invariant.each;
}

pub returns-clause-bits : goal.returns-clause-bits
returns-clause-bits c =
    let long = c.loop-q.invariant.long in
    bits_by (λ a b. a && b) refl c.args.words.now c.args.others.now c.loop-q.joined (omega arith) (omega arith)
    (λ p r within short. ap (λ n. digit n r) (c.loop-q.invariant.each p (omega arith)) ∙ digit_and (get_or c.args.words.now p 0) (get_or c.args.others.now p 0) r)

pub returns-clause-rest : goal.returns-clause-rest
returns-clause-rest c n none p past =
    zero_of_zero (λ a b. bit_and a b) c.args.words.now c.args.others.now c.loop-q.joined c.loop-q.q (omega arith) c.loop-q.invariant.each p
    (let less = and_le_l (get_or c.args.words.now p 0) (get_or c.args.others.now p 0) in omega (arith, none p past))

pub returns-clause-others : goal.returns-clause-others
returns-clause-others c n none p past =
    zero_of_zero (λ a b. bit_and a b) c.args.words.now c.args.others.now c.loop-q.joined c.loop-q.q (omega arith) c.loop-q.invariant.each p
    (let less = and_le_r (get_or c.args.words.now p 0) (get_or c.args.others.now p 0) in omega (arith, none p past))
