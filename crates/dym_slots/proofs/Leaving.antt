-- What a sweep leaves in a slot.
use Rattle.std.proofs.Common.{◌≡◌, ℕ, ◌≤◌, ◌⊎◌, inl, inr, length, sym, ◌∙◌, None, Some, arith}
use Rattle.dym_slots.specs.declared.machine.Slot.{Slot}
use Rattle.dym_slots.specs.declared.machine.Slot.TheVariants.{Free, Live, OutOwner, OutSweeper}
use Rattle.dym_slots.specs.Slots.{Core, state_of, IsEntry}
use Rattle.dym_slots.specs.SlotFacts.{Facts}
use Rattle.dym_slots.proofs.SlotPlaces.{inside_live}

pub left_at : (c : Core) (s : ℕ) → Facts c → c.owner.out ≡ None → c.sweeper.out ≡ None → length c.slots ≤ c.sweeper.clean → c.root ≤ c.sweeper.root_seen
    → (x : Slot) → state_of c s ≡ x → (state_of c s ≡ Free) ⊎ ((n : ℕ) × (state_of c s ≡ Live n) × IsEntry c s n)
left_at c s f owner sweeper all seen Free is = inl is
left_at c s f owner sweeper all seen (Live n) is = elim (f.live.listed_or_retired s n is) [
  | inl listed ↦ inr (n, is, listed)
  | inr past ↦
      let inside = inside_live c s n is in
      let kept = f.clean s n (omega arith) is in
      absurd (omega arith)
]
left_at c s f owner sweeper all seen (OutOwner n) is = absurd (let wrong : None ≡ Some s = sym owner ∙ f.owner.held s n is in cc)
left_at c s f owner sweeper all seen (OutSweeper n) is = absurd (let wrong : None ≡ Some s = sym sweeper ∙ f.sweeper.held s n is in cc)
