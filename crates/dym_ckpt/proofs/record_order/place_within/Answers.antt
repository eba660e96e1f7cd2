use Rattle.std.proofs.Common.{rules, ◌≡◌, ap, sym, ◌∙◌, arith, inl, inr}
use Rattle.std.proofs.lemmas.Bool.{cases_lt}
use Rattle.dym_pack.specs.Areas.{AreaName}
use Rattle.dym_ckpt.proofs.record_order.place_within.Goals as goal

pub loop-place-preserved : goal.loop-place-preserved
loop-place-preserved c log ok are place least base_logs same =
    elim (cases_lt place c.loop-place.place) as (λ _. ⊥) [
      | inl before ↦ c.loop-place.invariant log ok are place least before same
      | inr past ↦ (
          let here : place ≡ c.loop-place.place = omega arith in
          let name = ap (λ k. Rattle.dym_pack.specs.Areas.area_at log.copy k) (sym here) ∙ same in
          c.if-is_named.ensures.other (search rules) (c.area-area.ensures.exp log ok are ∙ ap (λ (x : AreaName). x.exponent) name) (c.area-area.ensures.ordinal log ok are ∙ ap (λ (x : AreaName). x.ordinal) name))
    ]

pub returns-clause-none : goal.returns-clause-none
returns-clause-none c _ log ok are place least base_logs same =
    c.loop-place.invariant log ok are place least (omega arith) same
