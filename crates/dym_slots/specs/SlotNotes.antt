-- The notes that the running seats carry beside their views, so that a single compare and exchange decides, and what
-- every step keeps of them.
use Rattle.std.specs.Prelude.{◌≡◌, ℕ, ◌+◌, ◌<◌, ◌⊎◌, Bool, List, [], ◌∷◌, Option, Some, None, length, filter, nat_eq, if◌then◌else◌, true, false}
use Rattle.dym_slots.specs.declared.machine.Slot.{Slot}
use Rattle.dym_slots.specs.declared.machine.Slot.TheVariants.{Free, Live, OutSweeper}
use Rattle.dym_slots.specs.declared.machine.Event.{Event}
use Rattle.dym_slots.specs.declared.machine.Event.TheVariants.{OwnerLook, OwnerClaim, OwnerTake, OwnerEmpty, OwnerFill, OwnerPut, OwnerLower, OwnerFree, SweeperRoot, SweeperLook, SweeperFree}
use Rattle.dym_slots.specs.Slots.{Core, start, state_of}
use Rattle.dym_slots.specs.SlotSteps.{Step, is_retired}

-- a look: a slot, and the state that the look found
pub record Look : Type 0 where
  pub slot : ℕ
  pub found : Slot

-- the owner's note: its last look, until its next step on that slot
abbrev pub OwnerNote : Type 0
OwnerNote = Option Look

-- the sweeper's note: the number at which its last look found the slot at the clean count, where it was below the
-- root seen; how many rounds it began, and how many slots it made Free
pub record SweeperNote : Type 0 where
  pub found : Option ℕ
  pub rounds : ℕ
  pub taken_back : ℕ

-- the owner's note after a step on the slot s
abbrev pub forget : ℕ → OwnerNote → OwnerNote
forget s None = None
forget s (Some l) = if nat_eq l.slot s then None else (Some l)

-- the owner's note after an event at the state c
abbrev pub owner_note : Event → Core → OwnerNote → OwnerNote
owner_note (OwnerLook s) c was = Some (record { slot = s; found = state_of c s })
owner_note (OwnerClaim s) c was = forget s was
owner_note (OwnerTake s) c was = forget s was
owner_note (OwnerEmpty s) c was = forget s was
owner_note (OwnerFill s n) c was = forget s was
owner_note (OwnerPut s) c was = forget s was
owner_note (OwnerLower s) c was = forget s was
owner_note (OwnerFree s) c was = forget s was
owner_note _ c was = was

-- the number of a Live slot
abbrev pub live_number : Slot → Option ℕ
live_number (Live n) = Some n
live_number _ = None

-- the sweeper's note after an event at the state c
abbrev pub sweeper_note : Event → Core → SweeperNote → SweeperNote
sweeper_note SweeperRoot c was = record was { found = None; rounds = was.rounds + 1 }
sweeper_note (SweeperLook s) c was = record was { found = if is_retired c.sweeper.root_seen (state_of c s) then live_number (state_of c s) else None }
sweeper_note (SweeperFree s) c was = record was { found = if nat_eq s c.sweeper.clean then None else was.found; taken_back = was.taken_back + 1 }
sweeper_note _ c was = was

-- the core with both notes
pub record Noted : Type 0 where
  pub core : Core
  pub owner : OwnerNote
  pub sweeper : SweeperNote

-- the start with both notes, at so many slots
abbrev pub noted_start : ℕ → Noted
noted_start count = record { core = start count; owner = None; sweeper = record { found = None; rounds = 0; taken_back = 0 } }

-- the event leads from the state a to the state b, and the notes follow
pub record NotedStep (e : Event) (a b : Noted) : Type 0 where
  pub step : Step e a.core b.core
  pub owner : b.owner ≡ owner_note e a.core a.owner
  pub sweeper : b.sweeper ≡ sweeper_note e a.core a.sweeper

-- the events lead, one after another, from the state a to the state b
abbrev pub NotedSteps : List Event → Noted → Noted → Type 0
NotedSteps [] a b = a ≡ b
NotedSteps (e ∷ es) a b = (m : Noted) × NotedStep e a m × NotedSteps es m b

-- A slot that the owner's last look found Free stays Free until the owner claims it. A slot that this look found at
-- Live(n) stays Live(n), OutSweeper(n) or Free until the owner's next step on it.
pub record LookStands (note : OwnerNote) (c : Core) : Type 0 where
  pub free : (s : ℕ) → note ≡ Some (record { slot = s; found = Free }) → state_of c s ≡ Free
  pub live : (s n : ℕ) → note ≡ Some (record { slot = s; found = Live n }) → (state_of c s ≡ Live n) ⊎ ((state_of c s ≡ OutSweeper n) ⊎ (state_of c s ≡ Free))

-- A slot at the clean count that the sweeper's last look found at Live(n), n below the root seen, is Live(n) or isn't
-- Live with a number below the root seen.
abbrev pub FoundStands : SweeperNote → Core → Type 0
FoundStands note c = (n m : ℕ) → note.found ≡ Some n → state_of c c.sweeper.clean ≡ Live m → m < c.sweeper.root_seen → m ≡ n

-- both notes hold of the core beside them
pub record NotesStand (a : Noted) : Type 0 where
  pub look : LookStands a.owner a.core
  pub found : FoundStands a.sweeper a.core

-- whether the event begins a round
abbrev pub is_round : Event → Bool
is_round SweeperRoot = true
is_round _ = false

-- whether the event is the sweeper's `free`
abbrev pub is_taking_back : Event → Bool
is_taking_back (SweeperFree s) = true
is_taking_back _ = false

-- The rounds are the sweeper's root steps of the events so far, and taken back its free steps.
pub record CountsTell (es : List Event) (note : SweeperNote) : Type 0 where
  pub rounds : note.rounds ≡ length (filter is_round es)
  pub taken_back : note.taken_back ≡ length (filter is_taking_back es)
