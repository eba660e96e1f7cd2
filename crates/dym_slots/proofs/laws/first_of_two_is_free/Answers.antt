use Rattle.std.proofs.Common.{◌≡◌, inl, inr, sym, ◌∙◌, None, Some, get_or, arith}
use Rattle.std.proofs.lemmas.List.Elements.{Contains-get_or}
use Rattle.dym_slots.proofs.laws.first_of_two_is_free.Goals as goal

pub returns : goal.returns
returns _ c facts idle i j d earlier within =
    elim (facts.remembered.state (get_or c.owner.remembered i d) (Contains-get_or c.owner.remembered i d (omega arith))) [
      | inl swept ↦ absurd (facts.remembered.only_last i j d earlier within swept)
      | inr (inl free) ↦ free
      | inr (inr reused) ↦ let wrong : None ≡ Some (get_or c.owner.remembered i d) = sym idle ∙ reused.0 in cc
    ]
