-- What a list of slots has after one place was written, and what the entries of a rising list share.
use Rattle.std.proofs.Common.{◌≡◌, ◌≢◌, ℕ, ◌<◌, ◌⊎◌, inl, inr, List, length, get_or, set, sym, ◌∙◌, ap, arith, Bool, true, false, cond, [], ◌∷◌, zero, suc, Option, None}
use Rattle.std.specs.List.{Contains, filter}
use Rattle.std.proofs.lemmas.List.Elements.{All-contains, All-filter, All-contains_itself, filter_passes}
use Rattle.std.proofs.lemmas.List.{length-set, get_or-set_same, get_or-set_other, get_or_past, get_or_default}
use Rattle.std.proofs.lemmas.Bool.{cases_eq, cases_lt}
use Rattle.dym_slots.specs.declared.machine.Slot.TheVariants.{Free, Live, OutOwner, OutSweeper}
use Rattle.dym_slots.specs.declared.machine.Entry.{Entry}
use Rattle.dym_slots.specs.declared.machine.Slot.{Slot}
use Rattle.dym_slots.specs.Slots.{Core, OwnerView, SweeperView, state_of, entry, IsEntry}
use Rattle.dym_slots.specs.SlotFacts.{Facts, ListRises, SweeperHoldsOne, RememberedIsPast, IsSwept, IsReused}

-- the place that was written has the new value, and each other one what it had
pub written : {X : Type 0} (xs : List X) (s t : ℕ) (w d : X) → s < length xs →
    ((t ≡ s) × (get_or (set xs s w) t d ≡ w)) ⊎ ((t ≢ s) × (get_or (set xs s w) t d ≡ get_or xs t d))
written xs s t w d inside = elim (cases_eq t s) [
  | inl same ↦ inl (same, rw same (get_or-set_same xs s w d inside))
  | inr other ↦ inr (other, get_or-set_other xs s t w d other)
]

-- a slot that isn't Free is one of the table
pub inside_unless_free : (c : Core) (s : ℕ) → state_of c s ≢ Free → s < length c.slots
inside_unless_free c s busy = elim (cases_lt s (length c.slots)) [
  | inl inside ↦ inside
  | inr past ↦ absurd (busy (get_or_past c.slots s Free past))
]

pub inside_live : (c : Core) (s n : ℕ) → state_of c s ≡ Live n → s < length c.slots
inside_live c s n live = inside_unless_free c s (λ free. let e : Live n ≡ Free = sym live ∙ free in cc)

pub inside_owner : (c : Core) (s n : ℕ) → state_of c s ≡ OutOwner n → s < length c.slots
inside_owner c s n out = inside_unless_free c s (λ free. let e : OutOwner n ≡ Free = sym out ∙ free in cc)

pub inside_sweeper : (c : Core) (s n : ℕ) → state_of c s ≡ OutSweeper n → s < length c.slots
inside_sweeper c s n out = inside_unless_free c s (λ free. let e : OutSweeper n ≡ Free = sym out ∙ free in cc)

-- two entries with the same number are in the same slot
pub one_slot : (c : Core) → ListRises c → (s t n : ℕ) → IsEntry c s n → IsEntry c t n → s ≡ t
one_slot c l s t n (i, ilt, ie) (j, jlt, je) =
    let x : ℕ → Entry = λ k. get_or c.owner.list k (entry s n) in
    let jd : x j ≡ entry t n = get_or_default c.owner.list j (entry s n) (entry t n) jlt ∙ je in
    let a : (x i).number ≡ n = ap (λ (e : Entry). e.number) ie in
    let b : (x j).number ≡ n = ap (λ (e : Entry). e.number) jd in
    elim (cases_lt i j) [
      | inl lt ↦ absurd (omega (arith, l.numbers_rise i j (entry s n) lt jlt))
      | inr ge ↦ elim (cases_lt j i) [
        | inl lt ↦ absurd (omega (arith, l.numbers_rise j i (entry s n) lt ilt))
        | inr le ↦ let same : i ≡ j = omega arith in ap (λ (e : Entry). e.slot) (sym ie ∙ ap x same ∙ jd)
      ]
    ]

-- a step that leaves the root, the list and the next number keeps the list's facts
pub list_kept : (c : Core) {slots : List Slot} {homes : List (Option ℕ)} {out : Option ℕ} {remembered : List ℕ} {sweeper : SweeperView} → ListRises c
    → ListRises (record c { slots = slots; homes = homes; owner = record c.owner { out = out; remembered = remembered }; sweeper = sweeper })
list_kept c l = record { numbers_rise = l.numbers_rise; slots_differ = l.slots_differ; from_root = l.from_root; below_next = l.below_next; root_below_next = l.root_below_next }

-- the slots that are out with the sweeper stay out, under their numbers
pub sweeper_kept : (c : Core) {slots : List Slot} {owner : OwnerView} →
    ((t n : ℕ) → get_or slots t Free ≡ OutSweeper n → state_of c t ≡ OutSweeper n) →
    ((t n : ℕ) → state_of c t ≡ OutSweeper n → get_or slots t Free ≡ OutSweeper n) →
    SweeperHoldsOne c → SweeperHoldsOne (record c { slots = slots; owner = owner })
sweeper_kept c was is f = record {
  held = λ t n o. f.held t n (was t n o);
  out = λ t o. let old = f.out t o in (old.0, is t old.0 old.1);
  number = λ t n o. f.number t n (was t n o);
}

-- what is at home in a slot that is out is free to change
pub home_keeps : (c : Core) (s : ℕ) (home : Option ℕ) → ((n : ℕ) × (state_of c s ≡ OutOwner n)) ⊎ ((n : ℕ) × (state_of c s ≡ OutSweeper n)) → Facts c → Facts (record c { homes = set c.homes s home })
home_keeps c s home is_out f =
    let inside : s < length c.homes = rw f.homes (elim is_out [ inl out ↦ inside_owner c s out.0 out.1 | inr out ↦ inside_sweeper c s out.0 out.1 ]) in
    let at = λ (t : ℕ). written c.homes s t home None inside in
    record {
      homes = length-set c.homes s home ∙ f.homes;
      list = list_kept c f.list;
      seen = f.seen;
      entries = f.entries;
      live = record {
        at_home = λ t n l. let a = at t in grind (arith, f.live.at_home t n);
        listed_or_retired = f.live.listed_or_retired;
      };
      owner = record { held = f.owner.held; out = f.owner.out; number = f.owner.number };
      sweeper = record { held = f.sweeper.held; out = f.sweeper.out; number = f.sweeper.number };
      free = λ t e. let a = at t in grind (arith, f.free t);
      remembered = record { state = f.remembered.state; only_last = f.remembered.only_last };
      clean = f.clean;
    }

-- what is remembered stays so, where no remembered slot changes
pub remembered_kept : (c d : Core) → d.owner.remembered ≡ c.owner.remembered →
    ((t : ℕ) → Contains c.owner.remembered t → IsSwept d t ⊎ ((state_of d t ≡ Free) ⊎ IsReused d t)) →
    ((t n : ℕ) → state_of d t ≡ OutSweeper n → Contains c.owner.remembered t → IsSwept c t) →
    RememberedIsPast c → RememberedIsPast d
remembered_kept c d same states swept r = record {
  state = λ t has. states t (rw same at has);
  only_last = rw same (λ i j k lt within out. r.only_last i j k lt within (swept (get_or c.owner.remembered i k) out.0 out.1 (i, omega arith, get_or_default c.owner.remembered i (get_or c.owner.remembered i k) k (omega arith))));
}

-- what a filter keeps was there and passes, and what was there and passes is kept
pub from_filter : {X : Type 0} (p : X → Bool) (xs : List X) (x : X) → Contains (filter p xs) x → Contains xs x × (p x ≡ true)
from_filter {X} p xs x has = (
  All-contains (Contains xs) (filter p xs) x (All-filter p (Contains xs) xs (All-contains_itself xs)) has,
  All-contains (λ y. p y ≡ true) (filter p xs) x (filter_passes p xs) has,
)

pub into_filter : {X : Type 0} (p : X → Bool) (xs : List X) (x : X) → Contains xs x → p x ≡ true → Contains (filter p xs) x
into_filter p [] x (k, lt, e) pass = absurd (omega arith)
into_filter p (y ∷ ys) x (zero, lt, e) pass =
    let here : p y ≡ true = rw e pass in
    rw here (0, omega arith, e)
into_filter p (y ∷ ys) x (suc k, lt, e) pass =
    let rest = into_filter p ys x (k, omega arith, e) pass in
    elim (p y) as (λ b. Contains (cond b (y ∷ filter p ys) (filter p ys)) x) [
      | true ↦ (suc rest.0, let l = rest.1 in omega arith, rest.2)
      | false ↦ rest
    ]
