-- From what a step tells to what the owner's functions say.
use Rattle.std.proofs.Common.{◌≡◌, ℕ, ◌+◌, ◌-◌, ◌*◌, ◌<◌, ◌⊎◌, List, [], ◌∷◌, ◌++◌, length, sym, ap, ◌∙◌, subst, arith, Some, None}
use Rattle.std.specs.Prelude.{Contains}
use Rattle.std.proofs.lemmas.List.{take_all, take_more}
use Rattle.atomic_table.specs.Table.{rest, Allows}
use Rattle.dym_base.specs.declared.limits.TheConstants.{RECORD_ROOM}
use Rattle.dym_slots.specs.declared.machine.Slot.{Slot}
use Rattle.dym_slots.specs.declared.machine.Slot.TheVariants.{Free, Live}
use Rattle.dym_slots.specs.declared.machine.TheConstants.{RECORD_NUMBERS}
use Rattle.dym_slots.specs.SlotWords.{slot_word}
use Rattle.dym_slots.specs.declared.view.Listed.{Listed}
use Rattle.dym_slots.specs.declared.view.SeatView.{SeatView}
use Rattle.dym_slots.specs.declared.view.SeatView.TheVariants.{Owns}
use Rattle.dym_slots.specs.SeatViews.{owner_of, holding, with_put, lowered, no_listed, newest_of, older_of, newest_freed}
use Rattle.dym_slots.specs.TableStates.{Held, Knowing, Holds}
use Rattle.dym_slots.specs.Moves.{HasOut, OwnerLooked, LookedAt, Claimed, TookOwn, TookRetired, Won, Lost, IsUnlisted, WasPut, WasLowered, FreedNewest, IsBytesOf}
use Rattle.dym_slots.proofs.OwnerMoves.{puts, lowers, frees}

same_slot : (s t : ℕ) → s + 1 ≡ t + 1 → t ≡ s
same_slot s t e = omega arith

pub looked_at : (s n : ℕ) (me after : Knowing) (x : Slot) → OwnerLooked (s + 1) me n after → ((shown : Slot) → n ≡ slot_word shown → x ≡ shown) → LookedAt s x me after
looked_at s n me after x l reads =
    let is : l.state ≡ x = sym (reads l.state l.shown) in
    let at : l.slot ≡ s = same_slot s l.slot l.at in
    subst (λ (p : ℕ × Slot). LookedAt p.0 p.1 me after) (λ j. (at j, is j)) (record { numbered = l.numbered; own = l.own; after_is = l.after_is })

pub claimed_by : (s : ℕ) (me after : Knowing) → me.1 ≡ [] → Claimed (s + 1) me after → after ≡ (Owns (holding s (owner_of me.0)), (s, None) ∷ [])
claimed_by s me after empty r =
    let at : r.slot ≡ s = same_slot s r.slot r.at in
    r.after_is ∙ (λ j. (Owns (holding (at j) (owner_of me.0)), (at j, None) ∷ empty j))

pub retired_by : (s n : ℕ) (me after : Knowing) (x : Slot) → TookRetired (s + 1) me n after → ((shown : Slot) → n ≡ slot_word shown → x ≡ shown) → Won s x me after ⊎ Lost s x me after
retired_by s n me after x r reads =
    let is : r.state ≡ x = sym (reads r.state r.shown) in
    let at : r.slot ≡ s = same_slot s r.slot r.at in
    subst (λ (p : ℕ × Slot). Won p.0 p.1 me after ⊎ Lost p.0 p.1 me after) (λ j. (at j, is j)) r.outcome

-- after an exchange by the holder
pub now_out : (s : ℕ) (home new : Held) (me mid : Knowing) → HasOut s home me → mid ≡ (me.0, (s, new) ∷ rest me.1) → HasOut s new mid
now_out s home new me mid has is =
    let here : HasOut s new (me.0, (s, new) ∷ rest me.1) = record { seat = has.seat; out = has.out; held = ap (λ (l : List (ℕ × Held)). (s, new) ∷ rest l) has.held } in
    subst (HasOut s new) (sym is) here

pub puts_by : (count slots id : ℕ) (me mid : Knowing) (s num word : ℕ) (bytes : List ℕ) → word ≡ slot_word (Live num) → ((home : Held) × HasOut s home me) → mid ≡ (me.0, (s, Some bytes) ∷ rest me.1)
    → IsUnlisted s (owner_of me.0).list → s < count → num ≡ (owner_of me.0).next → num < RECORD_NUMBERS → length (owner_of me.0).list < RECORD_ROOM
    → Allows (Holds count) slots id mid (s + 1) (λ _. word) (λ _ after. WasPut (s + 1) mid after)
puts_by count slots id me mid s num word bytes w has is alone inside number below room =
    let seat : mid.0 ≡ me.0 = ap (λ (m : Knowing). m.0) is in
    let back = sym seat in
    puts count slots id mid s num word bytes w (now_out s has.0 (Some bytes) me mid has.1 is) (subst (λ (v : SeatView). IsUnlisted s (owner_of v).list) back alone) inside
    (number ∙ ap (λ (v : SeatView). (owner_of v).next) back) below (subst (λ (v : SeatView). length (owner_of v).list < RECORD_ROOM) back room)

pub put_by : (me mid after : Knowing) (s : ℕ) (bytes : List ℕ) → ((home : Held) × HasOut s home me) → mid ≡ (me.0, (s, Some bytes) ∷ rest me.1) → WasPut (s + 1) mid after
    → after ≡ (Owns (with_put s bytes (owner_of me.0)), [])
put_by me mid after s bytes has is r =
    let held = (now_out s has.0 (Some bytes) me mid has.1 is).held in
    let both : (r.slot, Some r.bytes) ∷ [] ≡ (s, Some bytes) ∷ [] = sym r.held ∙ held in
    let pair : (r.slot, Some r.bytes) ≡ (s, Some bytes) = cc in
    let at : r.slot ≡ s = ap (λ (p : ℕ × Held). p.0) pair in
    let home : Some r.bytes ≡ Some bytes = ap (λ (p : ℕ × Held). p.1) pair in
    let same : r.bytes ≡ bytes = cc in
    r.after_is ∙ (λ j. (Owns (with_put (at j) (same j) (owner_of (is j).0)), []))

same_number : (m n : ℕ) → 4 * n + 1 ≡ 4 * m + 1 → m ≡ n
same_number m n e = omega arith

-- what a take of an entry's slot found
pub own_by : (s n old : ℕ) (me after : Knowing) → old ≡ slot_word (Live n) → me.1 ≡ [] → TookOwn (s + 1) old me after
    → (x : Listed) × Contains (owner_of me.0).list x × (x.entry.slot ≡ s) × (x.entry.number ≡ n) × (after ≡ (Owns (holding s (owner_of me.0)), (s, Some x.bytes) ∷ []))
own_by s n old me after word empty r =
    let at : r.found.entry.slot ≡ s = same_slot s r.found.entry.slot r.at in
    let number : r.found.entry.number ≡ n = same_number r.found.entry.number n (sym word ∙ r.number) in
    (r.found, r.there, at, number, r.after_is ∙ (λ j. (Owns (holding (at j) (owner_of me.0)), (at j, Some r.found.bytes) ∷ empty j)))

pub lowers_by : (count slots id : ℕ) (me mid : Knowing) (s n word : ℕ) (bytes : List ℕ) → word ≡ slot_word (Live n) → ((home : Held) × HasOut s home me) → mid ≡ (me.0, (s, Some bytes) ∷ rest me.1)
    → IsBytesOf s n (owner_of me.0) bytes → s < count → Allows (Holds count) slots id mid (s + 1) (λ _. word) (λ _ after. WasLowered (s + 1) mid after)
lowers_by count slots id me mid s n word bytes w has is (x, there, at, number, own) inside =
    let back : me.0 ≡ mid.0 = sym (ap (λ (m : Knowing). m.0) is) in
    let y : Listed = record { entry = record { slot = s; number = n }; bytes = bytes } in
    let found : Contains (owner_of mid.0).list y = subst (λ (p : Listed × SeatView). Contains (owner_of p.1).list p.0) (λ j. (record { entry = record { slot = at j; number = number j }; bytes = own j }, back j)) there in
    subst (λ (k : ℕ). Allows (Holds count) slots id mid (s + 1) (λ _. k) (λ _ after. WasLowered (s + 1) mid after)) (sym w)
    (lowers count slots id mid y (now_out s has.0 (Some bytes) me mid has.1 is) found inside)

pub lowered_by : (me mid after : Knowing) (s : ℕ) (new : Held) → mid ≡ (me.0, (s, new) ∷ rest me.1) → WasLowered (s + 1) mid after → after ≡ (Owns (lowered s (owner_of me.0)), [])
lowered_by me mid after s new is r =
    let at : r.slot ≡ s = same_slot s r.slot r.at in
    r.after_is ∙ (λ j. (Owns (lowered (at j) (owner_of (is j).0)), []))

newest_last : (list : List Listed) → 0 < length list → list ≡ older_of list ++ newest_of list ∷ []
newest_last list some =
    sym (take_all (length list - 1 + 1) list (omega arith)) ∙ take_more list (length list - 1) no_listed (omega arith)

pub frees_by : (count slots id : ℕ) (me : Knowing) (s word : ℕ) → word ≡ slot_word Free → HasOut s None me → 1 < length (owner_of me.0).list
    → (newest_of (owner_of me.0).list).entry.slot ≡ s → s < count → Allows (Holds count) slots id me (s + 1) (λ _. word) (λ _ after. FreedNewest (s + 1) me after)
frees_by count slots id me s word w has more at inside =
    let x = newest_of (owner_of me.0).list in
    subst (λ (p : ℕ × ℕ). Allows (Holds count) slots id me (p.0 + 1) (λ _. p.1) (λ _ after. FreedNewest (p.0 + 1) me after)) (λ j. (at j, sym w j))
    (frees count slots id me x (newest_last (owner_of me.0).list (omega arith)) more (subst (λ (t : ℕ). HasOut t None me) (sym at) has) (subst (λ (t : ℕ). t < count) (sym at) inside))

pub freed_by : (me after : Knowing) (s : ℕ) → FreedNewest (s + 1) me after → after ≡ (Owns (newest_freed s (owner_of me.0)), [])
freed_by me after s r =
    let at : r.slot ≡ s = same_slot s r.slot r.at in
    r.after_is ∙ (λ j. (Owns (newest_freed (at j) (owner_of me.0)), []))
