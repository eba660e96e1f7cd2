use Rattle.std.proofs.Common.{◌≡◌, Some, sym, ap, ◌∙◌, arith, inl, inr}
use Rattle.std.proofs.lemmas.Option.{same_Some}
use Rattle.dym_base.specs.Numbers.{cls}
use Rattle.dym_pack.proofs.Bodies.{chunk_two_is, chunk_two_only}
use Rattle.dym_pack.proofs.Seen.{not_none}
use Rattle.dym_pack.proofs.parsed_area.chunk_in.Goals as goal

pub returns-then-bytes-lt-LENGTH_BYTES-clause-only : goal.returns-then-bytes-lt-LENGTH_BYTES-clause-only
returns-then-bytes-lt-LENGTH_BYTES-clause-only c len is =
    let here = chunk_two_only c.args.class.exp c.args.bytes.now len is in
    absurd (omega arith)

pub returns-in_err-found-clause-only : goal.returns-in_err-found-clause-only
returns-in_err-found-clause-only c len is =
    let here = chunk_two_only c.args.class.exp c.args.bytes.now len is in
    not_none c.args.class.exp (c.in_err-found.ensures.value ∙ ap cls (c.from.ensures ∙ c.length_at-len.ensures) ∙ here.class)

pub returns-then-found-class-clause-only : goal.returns-then-found-class-clause-only
returns-then-found-class-clause-only c len is =
    let here = chunk_two_only c.args.class.exp c.args.bytes.now len is in
    let class : c.in_ok-found.found.exp ≡ c.args.class.exp = same_Some c.in_ok-found.found.exp c.args.class.exp (c.in_ok-found.ensures.value ∙ ap cls (c.from.ensures ∙ c.length_at-len.ensures) ∙ here.class) in
    elim c.then-found-class.either [ inl other ↦ absurd (other class) | inr short ↦ absurd (omega (arith, here.number, short.1, c.length_at-len.ensures)) ]

pub returns-clause-is : goal.returns-clause-is
returns-clause-is c =
    chunk_two_is c.args.class.exp c.length_at-len.result c.args.bytes.now (λ i. omega (arith, c.type_inv.bytes i)) c.length_at-len.ensures
    (ap cls (sym c.from.ensures) ∙ sym c.in_ok-found.ensures.value ∙ ap Some c.if-found-class.false)
    (omega arith)

pub returns-clause-only : goal.returns-clause-only
returns-clause-only c len is =
    let here = chunk_two_only c.args.class.exp c.args.bytes.now len is in
    ap Some (omega (arith, here.number, c.length_at-len.ensures))
