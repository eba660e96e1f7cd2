use Rattle.std.proofs.Common.{◌≡◌, inl, inr, arith, get_or, subst, ap, ◌∙◌}
use Rattle.std.proofs.lemmas.Bool.{cases_lt}
use Rattle.std.proofs.lemmas.List.{get_or_default}
use Rattle.dym_heap.specs.SizedAreas.{clean}
use Rattle.dym_heap.proofs.Cleans.{settled_places}
use Rattle.dym_heap.proofs.shelf.are_unmodified.Goals as goal

pub loop-i-preserved : goal.loop-i-preserved
loop-i-preserved g c k d l =
    elim (cases_lt k c.loop-i.i) as (λ _. clean (get_or c.args.sized_areas.now.items k d) ≡ get_or c.args.sized_areas.now.items k d) [
      | inl before ↦ c.loop-i.invariant k d before
      | inr past ↦
          let same : c.loop-i.i ≡ k = omega (arith, l, past) in
          let here : c.index.result.now ≡ get_or c.args.sized_areas.now.items k d =
          c.index.ensures ∙ get_or_default c.args.sized_areas.now.items c.loop-i.i c.index.result.now d (omega (arith, c.loop-i-test.true, c.len-i-end.ensures)) ∙ ap (λ n. get_or c.args.sized_areas.now.items n d) same in
          subst (λ p. clean p ≡ p) here (c.is_unmodified.ensures c.if-not-is_unmodified.false)
    ]

pub returns : goal.returns
returns g c h = settled_places c.args.sized_areas.now.items (λ k d l. c.loop-i.invariant k d (omega (arith, l, c.loop-i-test.false, c.len-i-end.ensures)))
