-- Of each event and each state it can be told whether the event is a step from the state.
use Rattle.std.proofs.Common.{◌≡◌, ◌≢◌, ◌⊎◌, inl, inr, ℕ, zero, suc, ◌<◌, List, [], ◌∷◌, ◌++◌, length, Option, Some, None, sym, ap, subst, refl, arith, length-append}
use Rattle.std.proofs.lemmas.Bool.{cases_eq, cases_lt}
use Rattle.dym_base.specs.declared.limits.TheConstants.{RECORD_ROOM}
use Rattle.dym_slots.specs.declared.machine.TheConstants.{RECORD_NUMBERS}
use Rattle.dym_slots.specs.declared.machine.Slot.{Slot}
use Rattle.dym_slots.specs.declared.machine.Slot.TheVariants.{Free, Live, OutOwner, OutSweeper}
use Rattle.dym_slots.specs.declared.machine.Entry.{Entry}
use Rattle.dym_slots.specs.declared.machine.Event.{Event}
use Rattle.dym_slots.specs.declared.machine.Event.TheVariants.{OwnerLook, OwnerClaim, OwnerTake, OwnerEmpty, OwnerFill, OwnerPut, OwnerLower, OwnerFree, OwnerRaise, SweeperRoot, SweeperLook, SweeperGrab, SweeperEmpty, SweeperFree}
use Rattle.dym_slots.specs.Slots.{Core, state_of, home_of, entry, HasNumber, IsListed}
use Rattle.dym_slots.specs.SlotSteps.{Step, IsNewestOfTwo}

-- it can be told whether this holds
abbrev pub Told : Type 0 → Type 0
Told P = P ⊎ (¬ P)

pub both : {A B : Type 0} → Told A → Told B → Told (A × B)
both (inl a) (inl b) = inl (a, b)
both (inl a) (inr never) = inr (λ h. never h.1)
both (inr never) b = inr (λ h. never h.0)

neither : {A : Type 0} → Told A → Told (¬ A)
neither (inl a) = inr (λ never. never a)
neither (inr never) = inl never

one_of : {A B : Type 0} → Told A → Told B → Told (A ⊎ B)
one_of (inl a) b = inl (inl a)
one_of (inr never) (inl b) = inl (inr b)
one_of {A = A} {B = B} (inr never) (inr nor) = inr (λ (h : A ⊎ B). elim h [ inl a ↦ never a | inr b ↦ nor b ])

pub told_below : (m n : ℕ) → Told (m < n)
told_below m n = elim (cases_lt m n) [ inl lt ↦ inl lt | inr ge ↦ inr (λ lt. omega arith) ]

told_none : (o : Option ℕ) → Told (o ≡ None)
told_none None = inl refl
told_none (Some n) = inr (λ e. cc)

told_some : (o : Option ℕ) (n : ℕ) → Told (o ≡ Some n)
told_some None n = inr (λ e. cc)
told_some (Some m) n = elim (cases_eq m n) [ inl same ↦ inl (ap (λ k. Some k) same) | inr other ↦ inr (λ e. let same : m ≡ n = cc in other same) ]

-- The states of a slot

-- the number of a slot that has one
abbrev number_of : Slot → ℕ
number_of Free = 0
number_of (Live n) = n
number_of (OutOwner n) = n
number_of (OutSweeper n) = n

told_free : (x : Slot) → Told (x ≡ Free)
told_free Free = inl refl
told_free (Live n) = inr (λ e. cc)
told_free (OutOwner n) = inr (λ e. cc)
told_free (OutSweeper n) = inr (λ e. cc)

told_live : (x : Slot) → Told (x ≡ Live (number_of x))
told_live Free = inr (λ e. cc)
told_live (Live n) = inl refl
told_live (OutOwner n) = inr (λ e. cc)
told_live (OutSweeper n) = inr (λ e. cc)

told_owner : (x : Slot) → Told (x ≡ OutOwner (number_of x))
told_owner Free = inr (λ e. cc)
told_owner (Live n) = inr (λ e. cc)
told_owner (OutOwner n) = inl refl
told_owner (OutSweeper n) = inr (λ e. cc)

live_is : (x : Slot) (n : ℕ) → x ≡ Live n → n ≡ number_of x
live_is x n is = sym (ap number_of is)

owner_is : (x : Slot) (n : ℕ) → x ≡ OutOwner n → n ≡ number_of x
owner_is x n is = sym (ap number_of is)

-- The owner's list

other_has : (n : ℕ) (x : Entry) (xs : List Entry) → x.number ≢ n → HasNumber (x ∷ xs) n → HasNumber xs n
other_has n x xs other (s, (zero, lt, e)) = absurd (other (ap (λ (y : Entry). y.number) e))
other_has n x xs other (s, (suc k, lt, e)) = (s, (k, omega arith, e))

more_has : (n : ℕ) (x : Entry) (xs : List Entry) → HasNumber xs n → HasNumber (x ∷ xs) n
more_has n x xs (s, (k, lt, e)) = (s, (suc k, omega arith, e))

none_has : (n : ℕ) → HasNumber [] n → ⊥
none_has n (s, (k, lt, e)) = omega arith

told_listed : (list : List Entry) (n : ℕ) → Told (HasNumber list n)
told_listed [] n = inr (none_has n)
told_listed (x ∷ xs) n = elim (cases_eq x.number n) [
  | inl same ↦ inl (subst (λ m. HasNumber (x ∷ xs) m) same (x.slot, (0, omega arith, refl)))
  | inr other ↦ elim (told_listed xs n) [ inl has ↦ inl (more_has n x xs has) | inr none ↦ inr (λ has. none (other_has n x xs other has)) ]
]

-- the last entry has this number
abbrev IsLast : List Entry → ℕ → Type 0
IsLast list n = (older : List Entry) × (s : ℕ) × (list ≡ older ++ entry s n ∷ [])

none_last : (n : ℕ) → IsLast [] n → ⊥
none_last n (older, s, is) = omega (arith, ap (λ (es : List Entry). length es) is, length-append older (entry s n ∷ []))

only_last : (x : Entry) (n : ℕ) → IsLast (x ∷ []) n → x.number ≡ n
only_last x n ([], s, is) = let same : x ≡ entry s n = cc in ap (λ (y : Entry). y.number) same
only_last x n (y ∷ older, s, is) = absurd (none_last n (older, s, cc))

later_last : (x y : Entry) (ys : List Entry) (n : ℕ) → IsLast (x ∷ y ∷ ys) n → IsLast (y ∷ ys) n
later_last x y ys n ([], s, is) = absurd (let none : y ∷ ys ≡ [] = cc in cc)
later_last x y ys n (z ∷ older, s, is) = (older, s, cc)

told_last : (list : List Entry) (n : ℕ) → Told (IsLast list n)
told_last [] n = inr (none_last n)
told_last (x ∷ []) n = elim (cases_eq x.number n) [
  | inl same ↦ inl (subst (λ m. IsLast (x ∷ []) m) same ([], x.slot, refl))
  | inr other ↦ inr (λ last. other (only_last x n last))
]
told_last (x ∷ y ∷ ys) n = elim (told_last (y ∷ ys) n) [
  | inl last ↦ inl (x ∷ last.0, last.1, ap (λ es. x ∷ es) last.2)
  | inr none ↦ inr (λ last. none (later_last x y ys n last))
]

none_newest : (n : ℕ) → IsNewestOfTwo [] n → ⊥
none_newest n (older, s, is, some) = none_last n (older, s, is)

newest_later : (x : Entry) (xs : List Entry) (n : ℕ) → IsNewestOfTwo (x ∷ xs) n → IsLast xs n
newest_later x xs n ([], s, is, some) = absurd (omega arith)
newest_later x xs n (y ∷ older, s, is, some) = (older, s, cc)

told_newest : (list : List Entry) (n : ℕ) → Told (IsNewestOfTwo list n)
told_newest [] n = inr (none_newest n)
told_newest (x ∷ xs) n = elim (told_last xs n) [
  | inl last ↦ inl (x ∷ last.0, last.1, ap (λ es. x ∷ es) last.2, omega arith)
  | inr none ↦ inr (λ newest. none (newest_later x xs n newest))
]

-- Steps

-- the event leads from the state to some state, or to none
abbrev pub Judged : Event → Core → Type 0
Judged e c = ((d : Core) × Step e c d) ⊎ ((d : Core) → ¬ Step e c d)

judged : {A : Type 0} → (e : Event) (c : Core) → Told A → (A → (d : Core) × Step e c d) → ((d : Core) → Step e c d → A) → Judged e c
judged e c (inl a) does needs = inl (does a)
judged e c (inr never) does needs = inr (λ d step. never (needs d step))

-- what a fill of a slot wants of its number
abbrev Wanted : Core → ℕ → ℕ → Type 0
Wanted c held n = (IsListed c held × (n ≡ held)) ⊎ ((¬ IsListed c held) × (n ≡ c.owner.next))

wanted : (c : Core) (held n : ℕ) → (IsListed c held → n ≡ held) → (¬ IsListed c held → n ≡ c.owner.next) → Wanted c held n
wanted c held n own fresh = elim (told_listed c.owner.list held) [ inl has ↦ inl (has, own has) | inr none ↦ inr (none, fresh none) ]

wanted_own : (c : Core) (held n : ℕ) → Wanted c held n → IsListed c held → n ≡ held
wanted_own c held n (inl (has, is)) listed = is
wanted_own c held n (inr (none, is)) listed = absurd (none listed)

wanted_fresh : (c : Core) (held n : ℕ) → Wanted c held n → ¬ IsListed c held → n ≡ c.owner.next
wanted_fresh c held n (inl (has, is)) unlisted = absurd (unlisted has)
wanted_fresh c held n (inr (none, is)) unlisted = is

pub step_decided : (e : Event) (c : Core) → Judged e c
step_decided (OwnerLook s) c = judged (OwnerLook s) c (told_below s (length c.slots)) (λ h. (_, record { exists = h; after = refl })) (λ d x. x.exists)
step_decided (OwnerClaim s) c =
    judged (OwnerClaim s) c (both (told_below s (length c.slots))
    (both (told_none c.owner.out) (both (told_free (state_of c s)) (told_below c.owner.next RECORD_NUMBERS))))
    (λ h. (_, record { exists = h.0; idle = h.1.0; free = h.1.1.0; numbers_left = h.1.1.1; after = refl }))
    (λ d x. (x.exists, (x.idle, (x.free, x.numbers_left))))
step_decided (OwnerTake s) c =
    let held = number_of (state_of c s) in
    judged (OwnerTake s) c (both (told_none c.owner.out) (told_live (state_of c s)))
    (λ h. (_, record { idle = h.0; number = held; live = h.1; after = refl }))
    (λ d x. (x.idle, subst (λ n. state_of c s ≡ Live n) (live_is (state_of c s) x.number x.live) x.live))
step_decided (OwnerEmpty s) c = judged (OwnerEmpty s) c (told_some c.owner.out s) (λ h. (_, record { holds = h; after = refl })) (λ d x. x.holds)
step_decided (OwnerFill s n) c =
    let held = number_of (state_of c s) in
    judged (OwnerFill s n) c (both (told_some c.owner.out s) (both (told_owner (state_of c s))
    (one_of (both (told_listed c.owner.list held) (cases_eq n held)) (both (neither (told_listed c.owner.list held)) (cases_eq n c.owner.next)))))
    (λ h. (_, record { holds = h.0; number = held; out = h.1.0; own = wanted_own c held n h.1.1; fresh = wanted_fresh c held n h.1.1; after = refl }))
    (λ d x.
    let same : x.number ≡ held = owner_is (state_of c s) x.number x.out in
    (x.holds, (subst (λ m. state_of c s ≡ OutOwner m) same x.out, subst (λ m. Wanted c m n) same (wanted c x.number n x.own x.fresh))))
step_decided (OwnerPut s) c =
    let held = number_of (state_of c s) in
    judged (OwnerPut s) c (both (told_some c.owner.out s) (both (told_owner (state_of c s)) (both (neither (told_listed c.owner.list held))
    (both (told_some (home_of c s) c.owner.next) (both (told_below c.owner.next RECORD_NUMBERS) (told_below (length c.owner.list) RECORD_ROOM))))))
    (λ h. (_, record { holds = h.0; number = held; out = h.1.0; unlisted = h.1.1.0; at_home = h.1.1.1.0; numbers_left = h.1.1.1.1.0; room = h.1.1.1.1.1; after = refl }))
    (λ d x.
    let same : x.number ≡ held = owner_is (state_of c s) x.number x.out in
    (x.holds, (subst (λ m. state_of c s ≡ OutOwner m) same x.out, (subst (λ m. ¬ IsListed c m) same x.unlisted, (x.at_home, (x.numbers_left, x.room))))))
step_decided (OwnerLower s) c =
    let held = number_of (state_of c s) in
    judged (OwnerLower s) c (both (told_some c.owner.out s) (both (told_owner (state_of c s)) (both (told_listed c.owner.list held) (told_some (home_of c s) held))))
    (λ h. (_, record { holds = h.0; number = held; out = h.1.0; listed = h.1.1.0; at_home = h.1.1.1; after = refl }))
    (λ d x.
    let same : x.number ≡ held = owner_is (state_of c s) x.number x.out in
    (x.holds, (subst (λ m. state_of c s ≡ OutOwner m) same x.out, (subst (λ m. IsListed c m) same x.listed, subst (λ m. home_of c s ≡ Some m) same x.at_home))))
step_decided (OwnerFree s) c =
    let held = number_of (state_of c s) in
    judged (OwnerFree s) c (both (told_some c.owner.out s) (both (told_owner (state_of c s))
    (both (told_none (home_of c s)) (one_of (neither (told_listed c.owner.list held)) (told_newest c.owner.list held)))))
    (λ h. (_, record { holds = h.0; number = held; out = h.1.0; empty = h.1.1.0; loose = h.1.1.1; after = refl }))
    (λ d x.
    let same : x.number ≡ held = owner_is (state_of c s) x.number x.out in
    (x.holds, (subst (λ m. state_of c s ≡ OutOwner m) same x.out, (x.empty, subst (λ m. (¬ IsListed c m) ⊎ IsNewestOfTwo c.owner.list m) same x.loose))))
step_decided (OwnerRaise n) c =
    judged (OwnerRaise n) c (both (told_none c.owner.out) (told_listed c.owner.list n)) (λ h. (_, record { idle = h.0; listed = h.1; after = refl }))
    (λ d x. (x.idle, x.listed))
step_decided SweeperRoot c = judged SweeperRoot c (told_none c.sweeper.out) (λ h. (_, record { idle = h; after = refl })) (λ d x. x.idle)
step_decided (SweeperLook s) c =
    judged (SweeperLook s) c (both (told_below s (length c.slots)) (both (told_none c.sweeper.out) (cases_eq s c.sweeper.clean)))
    (λ h. (_, record { exists = h.0; idle = h.1.0; in_turn = h.1.1; after = refl }))
    (λ d x. (x.exists, (x.idle, x.in_turn)))
step_decided (SweeperGrab s) c =
    let held = number_of (state_of c s) in
    judged (SweeperGrab s) c (both (told_none c.sweeper.out) (both (told_live (state_of c s)) (told_below held c.sweeper.root_seen)))
    (λ h. (_, record { idle = h.0; number = held; live = h.1.0; retired = h.1.1; after = refl }))
    (λ d x.
    let same : x.number ≡ held = live_is (state_of c s) x.number x.live in
    (x.idle, (subst (λ m. state_of c s ≡ Live m) same x.live, subst (λ m. m < c.sweeper.root_seen) same x.retired)))
step_decided (SweeperEmpty s) c = judged (SweeperEmpty s) c (told_some c.sweeper.out s) (λ h. (_, record { holds = h; after = refl })) (λ d x. x.holds)
step_decided (SweeperFree s) c =
    judged (SweeperFree s) c (both (told_some c.sweeper.out s) (told_none (home_of c s))) (λ h. (_, record { holds = h.0; empty = h.1; after = refl }))
    (λ d x. (x.holds, x.empty))
