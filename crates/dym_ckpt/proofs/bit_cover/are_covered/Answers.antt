use Rattle.std.proofs.Common.{◌≡◌, get_or, bit_and, w8, subst, arith}
use Rattle.std.specs.Int.{bit_not}
use Rattle.std.proofs.lemmas.Nat.{and_le_l}
use borrow.Author.Count.{below_more}
use Rattle.dym_ckpt.proofs.Coverings.{left_of, covered_by, bare_at}
use Rattle.dym_ckpt.proofs.bit_cover.are_covered.Goals as goal

pub loop-q-preserved : goal.loop-q-preserved
loop-q-preserved c =
    below_more (λ p. left_of (get_or c.args.used.now p 0) (get_or c.args.packed.now p 0) (get_or c.args.before.now p 0) ≡ 0) c.loop-q.q c.loop-q.invariant
    (subst (λ d. left_of (get_or c.args.used.now c.loop-q.q 0) (get_or c.args.packed.now c.loop-q.q 0) d ≡ 0) c.byte_at-in-loop-q.ensures
    (subst (λ b. left_of (get_or c.args.used.now c.loop-q.q 0) b c.byte_at-in-loop-q.result ≡ 0) c.byte_at.ensures c.if-used-q-ne0.false))

pub returns-then-used-q-ne0-clause-bare : goal.returns-then-used-q-ne0-clause-bare
returns-then-used-q-ne0-clause-bare c is =
    let a = get_or c.args.used.now c.loop-q.q 0 in
    let b = get_or c.args.packed.now c.loop-q.q 0 in
    let d = get_or c.args.before.now c.loop-q.q 0 in
    let part = and_le_l a (bit_not w8 b) in
    let less = and_le_l (bit_and a (bit_not w8 b)) (bit_not w8 d) in
    bare_at c.args.used.now c.args.packed.now c.args.before.now c.loop-q.q (omega (arith, c.type_inv.packed c.loop-q.q)) (omega (arith, c.type_inv.before c.loop-q.q)) (omega (arith, c.type_inv.used c.loop-q.q, part, less))
    (subst (λ x. left_of a b x ≡ 0 → ⊥) c.byte_at-in-loop-q.ensures (subst (λ x. left_of a x c.byte_at-in-loop-q.result ≡ 0 → ⊥) c.byte_at.ensures c.if-used-q-ne0.true))

pub returns-clause-covered : goal.returns-clause-covered
returns-clause-covered c is =
    covered_by c.args.used.now c.args.packed.now c.args.before.now (λ p. omega (arith, c.type_inv.packed p)) (λ p. omega (arith, c.type_inv.before p)) (λ p base_logs. c.loop-q.invariant p (omega arith))
