use Rattle.std.proofs.Common.{◌≡◌, inl, inr, sym, ◌∙◌, None, Some}
use Rattle.dym_slots.proofs.laws.owner_finds_its_own.Goals as goal

pub returns : goal.returns
returns _ c s n facts idle e = elim (facts.entries s n e) [
  | inl live ↦ live
  | inr out ↦ let wrong : None ≡ Some s = sym idle ∙ out.1 in cc
]
