-- The laws of the log table, each a statement over all its states, or over all lists of its events.
use Rattle.std.specs.Prelude.{◌≡◌, ℕ, ◌^◌, ◌≤◌, ◌⊎◌, List, length, None, AllPairs, filter, nat_eq, not}
use Rattle.std.specs.List.{list_any, range_with_len}
use Rattle.dym_base.specs.declared.limits.TheConstants.{LOG_SLOTS, MOST_RECORDS}
use Rattle.dym_slots.specs.declared.machine.Slot.TheVariants.{Free, Live}
use Rattle.dym_slots.specs.declared.machine.Event.{Event}
use Rattle.dym_slots.specs.declared.machine.TheConstants.{RECORD_NUMBERS}
use Rattle.dym_slots.specs.Slots.{Core, start, state_of, IsEntry}
use Rattle.dym_slots.specs.SlotSteps.{Step, Steps}
use Rattle.dym_slots.specs.SlotFacts.{Facts}
use Rattle.dym_slots.specs.SlotNotes.{Noted, noted_start, NotedStep, NotedSteps, NotesStand, CountsTell}

-- a step from a state that meets the facts leads to one that meets them, with as many slots
abbrev pub EachStepKeepsFacts : Type 0
EachStepKeepsFacts = (e : Event) (c d : Core) → Step e c d → Facts c → Facts d × (length d.slots ≡ length c.slots)

-- each state that a list of steps reaches from the start meets the facts, and has the slots of the start
abbrev pub EachRunKeepsFacts : Type 0
EachRunKeepsFacts = (count : ℕ) (es : List Event) (c : Core) → Steps es (start count) c → Facts c × (length c.slots ≡ count)

-- a step keeps the notes where the facts are met
abbrev pub EachStepKeepsNotes : Type 0
EachStepKeepsNotes = (e : Event) (a b : Noted) → NotedStep e a b → Facts a.core → NotesStand a → NotesStand b

-- each state that a list of steps reaches from the start meets the facts and the notes
abbrev pub EachRunKeepsNotes : Type 0
EachRunKeepsNotes = (count : ℕ) (es : List Event) (a : Noted) → NotedSteps es (noted_start count) a →
    Facts a.core × NotesStand a × CountsTell es a.sweeper

-- the notes follow each list of steps
abbrev pub EachRunHasNotes : Type 0
EachRunHasNotes = (es : List Event) (a : Noted) (d : Core) → Steps es a.core d → (b : Noted) × NotedSteps es a b × (b.core ≡ d)

-- The owner finds its own: a take of an entry's slot always wins.
abbrev pub OwnerFindsItsOwn : Type 0
OwnerFindsItsOwn = (c : Core) (s n : ℕ) → Facts c → c.owner.out ≡ None → IsEntry c s n → state_of c s ≡ Live n

-- Of two slots that the owner saw out with the sweeper since its last `put`, the first is Free.
abbrev pub FirstOfTwoIsFree : Type 0
FirstOfTwoIsFree = (c : Core) → Facts c → c.owner.out ≡ None → AllPairs (λ first second. state_of c first ≡ Free) c.owner.remembered

-- A sweep is complete: once all slots are clean, none is Live with a number below the root seen.
abbrev pub FullCountIsClean : Type 0
FullCountIsClean = (c : Core) → Facts c → length c.slots ≤ c.sweeper.clean → (s n : ℕ) → state_of c s ≡ Live n → c.sweeper.root_seen ≤ n

-- What a sweep leaves: once all slots are clean for the root and neither seat has a slot out, each slot is Free or has a record of the
-- owner's list.
abbrev pub OnlyTheListIsLeft : Type 0
OnlyTheListIsLeft = (c : Core) → Facts c → c.owner.out ≡ None → c.sweeper.out ≡ None → length c.slots ≤ c.sweeper.clean → c.root ≤ c.sweeper.root_seen →
    (s : ℕ) → (state_of c s ≡ Free) ⊎ ((n : ℕ) × (state_of c s ≡ Live n) × IsEntry c s n)

-- the slots that are in no entry
abbrev pub unlisted_slots : Core → List ℕ
unlisted_slots c = filter (λ s. not (list_any (λ e. nat_eq e.slot s) c.owner.list)) (range_with_len 0 (length c.slots))

-- `put` finds a slot: a list of as many entries as an object may have leaves at least 33 slots in no entry.
abbrev pub PutHasRoom : Type 0
PutHasRoom = (c : Core) → length c.slots ≡ LOG_SLOTS → length c.owner.list ≤ MOST_RECORDS → 33 ≤ length (unlisted_slots c)

-- a record's number is below 2 ^ 60
abbrev pub NumbersAreBelow : Type 0
NumbersAreBelow = RECORD_NUMBERS ≡ 2 ^ 60
