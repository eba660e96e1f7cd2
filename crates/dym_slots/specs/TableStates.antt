-- How a running log table shows a state of the machine, and the rule that it keeps.
use Rattle.std.specs.Prelude.{◌≡◌, ℕ, ◌≤◌, ◌⊎◌, List, [], ◌∷◌, map, zip, length, All, Option, option_map}
use mathlib.Core.Option as M
use mathlib.Core.Option.{some, none}
use Rattle.atomic_table.specs.Table.{State, Me}
use Rattle.dym_slots.specs.declared.machine.Slot.{Slot}
use Rattle.dym_slots.specs.declared.machine.Slot.TheVariants.{Free, Live}
use Rattle.dym_slots.specs.declared.machine.TheConstants.{RECORD_NUMBERS}
use Rattle.dym_slots.specs.declared.machine.Entry.{Entry}
use Rattle.dym_slots.specs.SlotWords.{slot_word}
use Rattle.dym_slots.specs.Slots.{Core}
use Rattle.dym_slots.specs.SlotFacts.{Facts}
use Rattle.dym_slots.specs.SlotNotes.{Noted, noted_start, NotesStand}
use Rattle.dym_slots.specs.declared.view.SeatView.{SeatView}
use Rattle.dym_slots.specs.declared.view.SeatView.TheVariants.{Alone, Owns, Sweeps, Knows}
use Rattle.dym_slots.specs.SeatViews.{Naming, owner_seat, sweeper_seat}

-- the table: a slot holds the bytes of a record, or nothing
abbrev pub Held : Type 0
Held = Option (List ℕ)

abbrev pub TableState : Type 0
TableState = State Held SeatView

abbrev pub Knowing : Type 0
Knowing = Me Held SeatView

-- the words: the root, and the word of each slot
abbrev pub words_of : Core → List ℕ
words_of c = c.root ∷ map slot_word c.slots

-- what is at home in a slot at rest is the record that its home names; of a slot that is out the table shows nothing, since
-- its holder has what is at home there
abbrev pub home_shown : Naming → Slot → Option ℕ → M.Option Held
home_shown records Free home = some (option_map records home)
home_shown records (Live n) home = some (option_map records home)
home_shown records _ home = none

abbrev pub homes_of : Naming → Core → List (M.Option Held)
homes_of records c = map (λ (p : Slot × Option ℕ). home_shown records p.0 p.1) (zip c.slots c.homes)

-- The table shows the state of the machine, with its records named so. What notes know of the root, and what the sweeper knows by
-- notes, is at most the root.
pub record Shows (st : TableState) (a : Noted) (records : Naming) : Type 0 where
  pub words : st.words ≡ words_of a.core
  pub homes : st.homes ≡ homes_of records a.core
  pub least_root : ℕ
  pub notes : List ℕ
  pub views : st.views ≡ Owns (owner_seat records a.core.owner a.owner) ∷ Sweeps (sweeper_seat least_root a.core.sweeper a.sweeper) ∷ map Knows notes
  pub reached : least_root ≤ a.core.root
  pub all_reached : All (λ n. n ≤ a.core.root) notes

-- the number of the first entry, or else the next one
abbrev pub first_of : List Entry → ℕ → ℕ
first_of [] next = next
first_of (e ∷ es) next = e.number

-- the root is that number: all records below the first of the list were let go
abbrev pub RootIsFirst : Core → Type 0
RootIsFirst c = first_of c.owner.list c.owner.next ≡ c.root

-- the state has so many slots, numbers that fit a word, all facts, all notes, and its root at the first of its list
pub record Sound (count : ℕ) (a : Noted) : Type 0 where
  pub count_is : length a.core.slots ≡ count
  pub numbered : a.core.owner.next ≤ RECORD_NUMBERS
  pub facts : Facts a.core
  pub notes : NotesStand a
  pub root : RootIsFirst a.core

-- the table shows a sound state of the machine
abbrev pub Runs : ℕ → TableState → Type 0
Runs count st = (a : Noted) × (records : Naming) × Shows st a records × Sound count a

-- before the sweeper's seat is made, the table shows the start, and the one seat knows nothing
pub record IsNew (count : ℕ) (st : TableState) : Type 0 where
  pub words : st.words ≡ words_of (noted_start count).core
  pub homes : st.homes ≡ homes_of (λ n. []) (noted_start count).core
  pub views : st.views ≡ Alone ∷ []

-- the rule
abbrev pub Holds : ℕ → TableState → Type 0
Holds count st = IsNew count st ⊎ Runs count st
