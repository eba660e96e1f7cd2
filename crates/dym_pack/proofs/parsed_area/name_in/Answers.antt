use Rattle.std.proofs.Common.{◌≡◌, inl, inr, ◌++◌, drop, get_or, ap, sym, ◌∙◌, arith}
use Rattle.dym_pack.specs.Offsets.{name_bytes}
use Rattle.dym_pack.proofs.Seen.{name_is}
use Rattle.dym_pack.proofs.parsed_area.name_in.Goals as goal

pub returns-clause-is : goal.returns-clause-is
returns-clause-is c =
    name_is c.args.bytes.now c.length_at.result (λ i. omega (arith, c.type_inv.bytes i)) (omega arith) c.length_at.ensures
    ∙ ap (λ e. name_bytes e c.length_at.result ++ drop 5 c.args.bytes.now) (sym c.in_ok-class.ensures)

pub returns-in_err-class-clause-only : goal.returns-in_err-class-clause-only
returns-in_err-class-clause-only c e o rest class small is =
    let first : get_or c.args.bytes.now 0 0 ≡ e = ap (λ bytes. get_or bytes 0 0) is in
    let low = class.0 in
    let high = class.1 in
    absurd (elim c.in_err-class.ensures as (λ _. ⊥) [
      | inl below ↦ omega arith
      | inr above ↦ omega arith
    ])
