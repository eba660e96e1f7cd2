-- Each step keeps the root at the first number of the list.
use Rattle.std.proofs.Common.{◌≡◌, ◌≢◌, ℕ, ◌+◌, ◌<◌, inl, inr, true, not, nat_eq, List, [], ◌∷◌, ◌++◌, length, get_or, take, drop, sym, refl, ap, ◌∙◌, subst, arith}
use Rattle.std.specs.List.{Contains}
use Rattle.std.proofs.lemmas.Bool.Decides.{nat_tests}
use Rattle.std.proofs.lemmas.List.{drop_more, take-append-drop}
use Rattle.std.proofs.lemmas.List.Elements.{Contains-get_or}
use Rattle.dym_slots.specs.declared.machine.Entry.{Entry}
use Rattle.dym_slots.specs.declared.machine.Event.{Event}
use Rattle.dym_slots.specs.declared.machine.Event.TheVariants.{OwnerPut, OwnerFree, OwnerRaise}
use Rattle.dym_slots.specs.Slots.{Core, entry, HasNumber, IsListed}
use Rattle.dym_slots.specs.SlotSteps.{Step, OwnerFrees, without, from_number}
use Rattle.dym_slots.specs.SlotFacts.{Facts, NumbersRise}
use Rattle.dym_slots.specs.TableStates.{first_of, RootIsFirst}
use Rattle.dym_slots.proofs.Entries.{keeps_all, without_newest, from_raised}

first_put : (list : List Entry) (s next root : ℕ) → first_of list next ≡ root → first_of (list ++ entry s next ∷ []) (next + 1) ≡ root
first_put [] s next root is = is
first_put (e ∷ es) s next root is = is

first_front : (older : List Entry) (x : Entry) (next : ℕ) → 0 < length older → first_of (older ++ x ∷ []) next ≡ first_of older next
first_front [] x next some = absurd (omega arith)
first_front (e ∷ es) x next some = refl

differs : (a n : ℕ) → a ≢ n → not (nat_eq a n) ≡ true
differs a n other = grind (arith, nat_tests)

-- without a number that no entry has a list is as it was
without_none : (n : ℕ) (list : List Entry) → ¬ HasNumber list n → without n list ≡ list
without_none n list none = keeps_all (λ e. not (nat_eq e.number n)) list (λ k d lt.
    let x = get_or list k d in
    let has : Contains list x = Contains-get_or list k d lt in
    differs x.number n (λ same. none (x.slot, subst (λ (m : ℕ). Contains list (entry x.slot m)) same has)))

freed_first : (s : ℕ) (c d : Core) (h : OwnerFrees s c d) → Facts c → RootIsFirst c → first_of (without h.number c.owner.list) c.owner.next ≡ c.root
freed_first s c d h f r = elim h.loose [
  | inl none ↦ ap (λ (l : List Entry). first_of l c.owner.next) (without_none h.number c.owner.list none) ∙ r
  | inr (older, t, list, some) ↦
      let left : without h.number c.owner.list ≡ older = ap (without h.number) list ∙ without_newest older t h.number (subst NumbersRise list f.list.numbers_rise) in
      ap (λ (l : List Entry). first_of l c.owner.next) left
      ∙ sym (first_front older (entry t h.number) c.owner.next some)
      ∙ ap (λ (l : List Entry). first_of l c.owner.next) (sym list)
      ∙ r
]

raised_first : (c : Core) (n : ℕ) → Facts c → IsListed c n → first_of (from_number n c.owner.list) c.owner.next ≡ n
raised_first c n f (s, (k, lt, is)) =
    let list = c.owner.list in
    let x = entry s n in
    let split : list ≡ take k list ++ x ∷ drop (k + 1) list =
    sym (take-append-drop k list) ∙ ap (λ (l : List Entry). take k list ++ l) (drop_more list k x lt ∙ ap (λ (e : Entry). e ∷ drop (k + 1) list) is) in
    let left : from_number n list ≡ x ∷ drop (k + 1) list =
    ap (from_number n) split ∙ from_raised (take k list) (drop (k + 1) list) x (subst NumbersRise split f.list.numbers_rise) in
    ap (λ (l : List Entry). first_of l c.owner.next) left

pub step_keeps_root : (e : Event) (c d : Core) → Step e c d → Facts c → RootIsFirst c → RootIsFirst d
step_keeps_root (OwnerPut s) c d h f r = subst RootIsFirst (sym h.after) (first_put c.owner.list s c.owner.next c.root r)
step_keeps_root (OwnerFree s) c d h f r = subst RootIsFirst (sym h.after) (freed_first s c d h f r)
step_keeps_root (OwnerRaise n) c d h f r = subst RootIsFirst (sym h.after) (raised_first c n f h.listed)
step_keeps_root _ c d h f r = subst RootIsFirst (sym h.after) r
