-- What the facts say of the slot that the owner has out.
use Rattle.std.proofs.Common.{◌≡◌, ◌≢◌, inl, inr, ℕ, List, ◌-◌, ◌<◌, ◌≤◌, true, false, nat_eq, not, Option, Some, length, get_or, slice_get, sym, ◌∙◌, ap, subst, refl, arith}
use Rattle.std.specs.List.{list_any}
use Rattle.std.specs.Option.{option_eq}
use Rattle.std.proofs.lemmas.Bool.Decides.{nat_tests}
use Rattle.std.proofs.lemmas.Bool.{cases_lt, eqb-true}
use Rattle.std.proofs.lemmas.List.{get_or_default}
use Rattle.std.proofs.lemmas.List.Folds.{Any-from_list_any}
use Rattle.std.proofs.lemmas.Option.{slice_get-get_or}
use Rattle.dym_slots.specs.declared.machine.Slot.TheVariants.{OutOwner, OutSweeper}
use Rattle.dym_slots.specs.Slots.{Core, state_of, IsListed}
use Rattle.dym_slots.specs.SlotFacts.{Facts}

-- the number of that slot is in the list where it lies from the root on and below the next number
pub listed_in_range : (c : Core) (s n : ℕ) → Facts c → state_of c s ≡ OutOwner n → c.root ≤ n → n < c.owner.next → IsListed c n
listed_in_range c s n f out from below = elim (f.owner.number s n out) [
  | inl e ↦ (s, e)
  | inr (inl past) ↦ absurd (omega arith)
  | inr (inr next) ↦ absurd (omega arith)
]

pub range_of_listed : (c : Core) (n : ℕ) → Facts c → IsListed c n → (c.root ≤ n) × (n < c.owner.next)
range_of_listed c n f (s, e) = (f.list.from_root s n e, f.list.below_next s n e)

-- a slot that is out with the sweeper is remembered only in the last place
pub new_if_not_last : (c : Core) (s n : ℕ) → Facts c → state_of c s ≡ OutSweeper n →
    slice_get c.owner.remembered (length c.owner.remembered - 1) ≢ Some s → list_any (λ t. nat_eq t s) c.owner.remembered ≡ false
new_if_not_last c s n f out other = elim (list_any (λ t. nat_eq t s) c.owner.remembered) as (λ b. list_any (λ t. nat_eq t s) c.owner.remembered ≡ b → b ≡ false) [
  | false ↦ λ no. refl
  | true ↦ λ yes. absurd (
      let found = Any-from_list_any (λ t. nat_eq t s) c.owner.remembered yes in
      let k = found.0 in
      let inside : k < length c.owner.remembered = found.2 in
      let same : get_or c.owner.remembered k s ≡ s = get_or_default c.owner.remembered k s found.1 inside ∙ (found.3 ∙ eqb-true found.1 s found.4) in
      elim (cases_lt k (length c.owner.remembered - 1)) [
        | inl earlier ↦ f.remembered.only_last k (length c.owner.remembered - 1) s earlier (omega arith) (n, subst (λ t. state_of c t ≡ OutSweeper n) (sym same) out)
        | inr last ↦
            let place : k ≡ length c.owner.remembered - 1 = omega arith in
            other (rw (← place) (slice_get-get_or c.owner.remembered k s inside ∙ ap Some same))
      ])
] refl

-- a look that finds another slot in the last place
pub other_last : (remembered : List ℕ) (o : Option ℕ) (s : ℕ) → true ≡ not (option_eq nat_eq o (Some s)) → o ≡ slice_get remembered (length remembered - 1) → slice_get remembered (length remembered - 1) ≢ Some s
other_last remembered o s differs is same =
    let here : o ≡ Some s = is ∙ same in
    let hit : nat_eq s s ≡ true = grind (arith, nat_tests) in
    let wrong : true ≡ not (nat_eq s s) = rw here at differs in
    let wrong' : true ≡ false = rw hit at wrong in
    cc
