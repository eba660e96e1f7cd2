use Rattle.std.proofs.Common.{◌≡◌, ◌+◌, ◌-◌, Some, drop, sym, subst, ap, ◌∙◌, arith, suc}
use Rattle.std.proofs.lemmas.Option.{same_Some}
use Rattle.std.proofs.lemmas.List.{drop-drop}
use Rattle.dym_base.specs.declared.command.Version.TheVariants.{Two}
use Rattle.dym_pack.specs.Contents.{IsBody}
use Rattle.dym_pack.proofs.Bodies.{body_none, body_none_only, body_append, body_split, body_within}
use Rattle.dym_pack.proofs.parsed_area.chunks_in.Goals as goal

pub loop-i-init : goal.loop-i-init
loop-i-init c = record {
  within = omega arith;
  done = body_none Two c.args.class.exp c.args.bytes.now;
  left = λ len is. (let all : c.args.count ≡ c.args.count - 0 = omega arith in (len, subst (λ m. IsBody Two c.args.class.exp m c.args.bytes.now len) all is, omega arith));
}

pub returns-in_err-at-clause-only : goal.returns-in_err-at-clause-only
returns-in_err-at-clause-only c len is =
    let left = c.loop-i.invariant.left len is in
    let n = c.args.count - c.loop-i._i - 1 in
    let some : c.args.count - c.loop-i._i ≡ suc n = omega arith in
    let rest = drop c.loop-i.at c.args.bytes.now in
    let parts = body_split Two c.args.class.exp n rest left.0 (subst (λ m. IsBody Two c.args.class.exp m rest left.0) some left.1) in
    let none = c.in_err-at.ensures.only parts.first (subst (λ bs. IsBody Two c.args.class.exp 1 bs parts.first) (sym c.rest_from.ensures) parts.one) in
    cc none

pub loop-i-preserved : goal.loop-i-preserved
loop-i-preserved c =
    let i = c.loop-i._i in
    let at = c.loop-i.at in
    let m = c.in_ok-at.field-0 in
    let bytes = c.args.bytes.now in
    let one = subst (λ bs. IsBody Two c.args.class.exp 1 bs m) c.rest_from.ensures c.in_ok-at.ensures.is in
    record {
      within = omega (arith, body_within Two c.args.class.exp (i + 1) bytes (at + m) (body_append Two c.args.class.exp i 1 bytes at m c.loop-i.invariant.done one));
      done = body_append Two c.args.class.exp i 1 bytes at m c.loop-i.invariant.done one;
      left = λ len is.
          let left = c.loop-i.invariant.left len is in
          let n = c.args.count - (i + 1) in
          let some : c.args.count - i ≡ suc n = omega arith in
          let rest = drop at bytes in
          let parts = body_split Two c.args.class.exp n rest left.0 (subst (λ q. IsBody Two c.args.class.exp q rest left.0) some left.1) in
          let same : m ≡ parts.first = same_Some m parts.first (c.in_ok-at.ensures.only parts.first (subst (λ bs. IsBody Two c.args.class.exp 1 bs parts.first) (sym c.rest_from.ensures) parts.one)) in
          let further : drop parts.first rest ≡ drop (at + m) bytes = drop-drop parts.first at bytes ∙ ap (λ q. drop (at + q) bytes) (sym same) in
          (parts.more, subst (λ bs. IsBody Two c.args.class.exp n bs parts.more) further parts.others, omega (arith, left.2, parts.sum, same));
    }

pub returns-clause-only : goal.returns-clause-only
returns-clause-only c len is =
    let left = c.loop-i.invariant.left len is in
    let rest = drop c.loop-i.at c.args.bytes.now in
    let none : c.args.count - c.loop-i._i ≡ 0 = omega arith in
    let end = body_none_only Two c.args.class.exp rest left.0 (subst (λ m. IsBody Two c.args.class.exp m rest left.0) none left.1) in
    ap Some (omega (arith, left.2))
