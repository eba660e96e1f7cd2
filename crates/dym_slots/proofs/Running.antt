-- From a table that keeps the rule to the state of the machine that it shows, and back after a step.
use Rattle.std.proofs.Common.{◌≡◌, ◌≢◌, ℕ, zero, suc, ◌<◌, ◌≤◌, inl, inr, true, false, nat_eq, List, [], ◌∷◌, map, set, sym, refl, ap, ◌∙◌, arith, Option, Some, None}
use Rattle.std.specs.Prelude.{option_map, if◌then◌else◌, ◌==◌}
use mathlib.Core.Option as M
use mathlib.Core.Option.{some, none, some-injective, some-ne-none}
use prog.Atomic.{either}
use lib.ListN.{get_elem?}
use Rattle.atomic_table.proofs.Lists.{exchanged}
use Rattle.dym_slots.specs.declared.machine.Slot.{Slot}
use Rattle.dym_slots.specs.declared.machine.Slot.TheVariants.{Live}
use Rattle.dym_slots.specs.declared.machine.TheConstants.{RECORD_NUMBERS}
use Rattle.dym_slots.specs.declared.machine.Event.{Event}
use Rattle.dym_slots.specs.Slots.{Core, state_of}
use Rattle.dym_slots.specs.SlotSteps.{Step}
use Rattle.dym_slots.specs.SlotNotes.{OwnerNote, Noted, NotedStep, owner_note, sweeper_note, forget}
use Rattle.dym_slots.proofs.Steps.{step_keeps, step_counts}
use Rattle.dym_slots.proofs.Notes.{step_keeps_notes}
use Rattle.dym_slots.proofs.Roots.{step_keeps_root}
use Rattle.dym_slots.specs.declared.view.Glimpse.{Glimpse}
use Rattle.dym_slots.specs.declared.view.OwnerSeat.{OwnerSeat}
use Rattle.dym_slots.specs.declared.view.SweeperSeat.{SweeperSeat}
use Rattle.dym_slots.specs.declared.view.SeatView.{SeatView}
use Rattle.dym_slots.specs.declared.view.SeatView.TheVariants.{Alone, Owns, Sweeps, Knows}
use Rattle.dym_slots.specs.SeatViews.{Naming, owner_seat, sweeper_seat, glimpse, glimpse_of, past}
use Rattle.dym_slots.specs.TableStates.{Held, TableState, words_of, Shows, Sound, Holds}
use Rattle.dym_slots.proofs.Showing.{by_state, homes_by_state}

-- The state behind a seat

-- the view behind the two ends' is a note's
pub note_at : (notes : List ℕ) (i : ℕ) (v : SeatView) → get_elem? (map Knows notes) i ≡ some v → (n : ℕ) × (get_elem? notes i ≡ some n) × (Knows n ≡ v)
note_at [] i v e = absurd (some-ne-none v (sym e))
note_at (n ∷ ns) zero v e = (n, refl, some-injective (Knows n) v e)
note_at (n ∷ ns) (suc i) v e = note_at ns i v e

owner_at : (p o : OwnerSeat) (w : SweeperSeat) (notes : List ℕ) (id : ℕ) → get_elem? (Owns p ∷ Sweeps w ∷ map Knows notes) id ≡ some (Owns o) → (id ≡ 0) × (p ≡ o)
owner_at p o w notes zero e = let same : Owns p ≡ Owns o = some-injective (Owns p) (Owns o) e in (refl, cc)
owner_at p o w notes (suc zero) e = absurd (let same : Sweeps w ≡ Owns o = some-injective (Sweeps w) (Owns o) e in cc)
owner_at p o w notes (suc (suc i)) e = absurd (let n = note_at notes i (Owns o) e in let same : Knows n.0 ≡ Owns o = n.2 in cc)

sweeper_at : (p : OwnerSeat) (v w : SweeperSeat) (notes : List ℕ) (id : ℕ) → get_elem? (Owns p ∷ Sweeps v ∷ map Knows notes) id ≡ some (Sweeps w) → (id ≡ 1) × (v ≡ w)
sweeper_at p v w notes zero e = absurd (let same : Owns p ≡ Sweeps w = some-injective (Owns p) (Sweeps w) e in cc)
sweeper_at p v w notes (suc zero) e = let same : Sweeps v ≡ Sweeps w = some-injective (Sweeps v) (Sweeps w) e in (refl, cc)
sweeper_at p v w notes (suc (suc i)) e = absurd (let n = note_at notes i (Sweeps w) e in let same : Knows n.0 ≡ Sweeps w = n.2 in cc)

alone_at : (v : SeatView) (id : ℕ) → get_elem? (Alone ∷ []) id ≡ some v → Alone ≡ v
alone_at v zero e = some-injective Alone v e
alone_at v (suc i) e = absurd (some-ne-none v (sym e))

-- the state of the machine that a table shows to its owner
pub record OwnerIn (count : ℕ) (st : TableState) (id : ℕ) (o : OwnerSeat) : Type 0 where
  pub state : Noted
  pub records : Naming
  pub shows : Shows st state records
  pub sound : Sound count state
  pub first : id ≡ 0
  pub seat : owner_seat records state.core.owner state.owner ≡ o

pub owner_in : (count : ℕ) (st : TableState) (id : ℕ) (o : OwnerSeat) → Holds count st → get_elem? st.views id ≡ some (Owns o) → OwnerIn count st id o
owner_in count st id o (inl new) at =
    let same : Alone ≡ Owns o = alone_at (Owns o) id (ap (λ (l : List SeatView). get_elem? l id) (sym new.views) ∙ at) in
    absurd cc
owner_in count st id o (inr (a, records, shows, sound)) at =
    let p = owner_at (owner_seat records a.core.owner a.owner) o (sweeper_seat shows.least_root a.core.sweeper a.sweeper) shows.notes id (ap (λ (l : List SeatView). get_elem? l id) (sym shows.views) ∙ at) in
    record { state = a; records = records; shows = shows; sound = sound; first = p.0; seat = p.1 }

-- the state of the machine that a table shows to its sweeper
pub record SweeperIn (count : ℕ) (st : TableState) (id : ℕ) (w : SweeperSeat) : Type 0 where
  pub state : Noted
  pub records : Naming
  pub shows : Shows st state records
  pub sound : Sound count state
  pub second : id ≡ 1
  pub seat : sweeper_seat shows.least_root state.core.sweeper state.sweeper ≡ w

pub sweeper_in : (count : ℕ) (st : TableState) (id : ℕ) (w : SweeperSeat) → Holds count st → get_elem? st.views id ≡ some (Sweeps w) → SweeperIn count st id w
sweeper_in count st id w (inl new) at =
    let same : Alone ≡ Sweeps w = alone_at (Sweeps w) id (ap (λ (l : List SeatView). get_elem? l id) (sym new.views) ∙ at) in
    absurd cc
sweeper_in count st id w (inr (a, records, shows, sound)) at =
    let p = sweeper_at (owner_seat records a.core.owner a.owner) (sweeper_seat shows.least_root a.core.sweeper a.sweeper) w shows.notes id (ap (λ (l : List SeatView). get_elem? l id) (sym shows.views) ∙ at) in
    record { state = a; records = records; shows = shows; sound = sound; second = p.0; seat = p.1 }

-- The state after a step

-- the notes follow an event
abbrev pub noted : Event → Noted → Core → Noted
noted e a d = record { core = d; owner = owner_note e a.core a.owner; sweeper = sweeper_note e a.core a.sweeper }

pub sound_after : (count : ℕ) (e : Event) (a : Noted) (d : Core) → Step e a.core d → d.owner.next ≤ RECORD_NUMBERS → Sound count a → Sound count (noted e a d)
sound_after count e a d h below s =
    let both : NotedStep e a (noted e a d) = record { step = h; owner = refl; sweeper = refl } in
    record {
      count_is = step_counts e a.core d h ∙ s.count_is;
      numbered = below;
      facts = step_keeps e a.core d h s.facts;
      notes = step_keeps_notes e a (noted e a d) both s.facts s.notes;
      root = step_keeps_root e a.core d h s.facts s.root;
    }

pub owner_holds : (count : ℕ) (st : TableState) (id : ℕ) (o : OwnerSeat) (i : OwnerIn count st id o) (b : Noted) (records : Naming) (words : List ℕ) (homes : List (M.Option Held)) (p : OwnerSeat)
    → Sound count b → words ≡ words_of b.core → homes ≡ map (by_state records) b.core.slots
    → owner_seat records b.core.owner b.owner ≡ p
    → sweeper_seat i.shows.least_root b.core.sweeper b.sweeper ≡ sweeper_seat i.shows.least_root i.state.core.sweeper i.state.sweeper → i.state.core.root ≤ b.core.root
    → Holds count (record { words = words; homes = homes; views = set st.views id (Owns p) })
owner_holds count st id o i b records words homes p sound w h seat others root = inr (
  b,
  records,
  record {
    words = w;
    homes = h ∙ sym (homes_by_state records b.core sound.facts);
    least_root = i.shows.least_root;
    notes = i.shows.notes;
    views = (λ k. set (i.shows.views k) (i.first k) (Owns p)) ∙ (λ k. Owns (sym seat k) ∷ Sweeps (sym others k) ∷ map Knows i.shows.notes);
    reached = (let r = i.shows.reached in omega arith);
    all_reached = λ k d lt. let r = i.shows.all_reached k d lt in omega arith;
  },
  sound,
)

pub sweeper_holds : (count : ℕ) (st : TableState) (id : ℕ) (w : SweeperSeat) (i : SweeperIn count st id w) (b : Noted) (words : List ℕ) (homes : List (M.Option Held)) (p : SweeperSeat)
    → Sound count b → words ≡ words_of b.core → homes ≡ map (by_state i.records) b.core.slots
    → sweeper_seat i.shows.least_root b.core.sweeper b.sweeper ≡ p → owner_seat i.records b.core.owner b.owner ≡ owner_seat i.records i.state.core.owner i.state.owner
    → b.core.root ≡ i.state.core.root → Holds count (record { words = words; homes = homes; views = set st.views id (Sweeps p) })
sweeper_holds count st id w i b words homes p sound ws h seat others root = inr (
  b,
  i.records,
  record {
    words = ws;
    homes = h ∙ sym (homes_by_state i.records b.core sound.facts);
    least_root = i.shows.least_root;
    notes = i.shows.notes;
    views = (λ k. set (i.shows.views k) (i.second k) (Sweeps p)) ∙ (λ k. Owns (sym others k) ∷ Sweeps (sym seat k) ∷ map Knows i.shows.notes);
    reached = (let r = i.shows.reached in omega arith);
    all_reached = λ k d lt. let r = i.shows.all_reached k d lt in omega arith;
  },
  sound,
)

-- What the facts say of a slot

under : (n next top : ℕ) → n < next → next ≤ top → n < top
under n next top lt le = omega arith

-- a Live slot's number is below the next one
pub live_below : (count : ℕ) (a : Noted) → Sound count a → (s n : ℕ) → state_of a.core s ≡ Live n → n < a.core.owner.next
live_below count a sound s n live = elim (sound.facts.live.listed_or_retired s n live) [
  | inl e ↦ sound.facts.list.below_next s n e
  | inr lt ↦ let le = sound.facts.list.root_below_next in omega arith
]

pub live_numbered : (count : ℕ) (a : Noted) → Sound count a → (s n : ℕ) → state_of a.core s ≡ Live n → n < RECORD_NUMBERS
live_numbered count a sound s n live = under n a.core.owner.next RECORD_NUMBERS (live_below count a sound s n live) sound.numbered

-- Looks

pub past_forget : (s : ℕ) (note : OwnerNote) → option_map glimpse_of (forget s note) ≡ past s (option_map glimpse_of note)
past_forget s None = refl
past_forget s (Some l) = elim (nat_eq l.slot s) as (λ b. option_map glimpse_of (if b then None else (Some l)) ≡ (if b then None else (Some (glimpse_of l)))) [ true ↦ refl | false ↦ refl ]

pub past_twice : (s : ℕ) (look : Option Glimpse) → past s (past s look) ≡ past s look
past_twice s None = refl
past_twice s (Some g) = elim (nat_eq g.slot s) as (λ b. nat_eq g.slot s ≡ b → past s (if b then None else (Some g)) ≡ (if b then None else (Some g))) [
  | true ↦ λ is. refl
  | false ↦ λ is. rw is refl
] refl

pub look_of : (note : OwnerNote) (s : ℕ) (x : Slot) → option_map glimpse_of note ≡ Some (glimpse s x) → note ≡ Some (record { slot = s; found = x })
look_of None s x e = absurd cc
look_of (Some l) s x e =
    let same : glimpse_of l ≡ glimpse s x = cc in
    λ i. Some (record { slot = (same i).slot; found = (same i).found })

-- A compare and exchange

pub wins : (k old new : ℕ) → k ≡ old → either (k == old) new k ≡ new
wins k old new hit = exchanged k old new (λ y. y ≡ new) (λ e. refl) (λ miss. absurd (miss hit))

pub loses : (k old new : ℕ) → k ≢ old → either (k == old) new k ≡ k
loses k old new miss = exchanged k old new (λ y. y ≡ k) (λ e. absurd (miss e)) (λ n. refl)
