-- How the owner keeps the slots of its table: those of its list first, oldest first, and then the others.
use Rattle.std.specs.Prelude.{◌≡◌, ◌≢◌, ℕ, ◌<◌, ◌≤◌, List, [], ◌++◌, map, take, drop, length, slice_index_or, All, AllPairs}
use Rattle.dym_base.specs.declared.limits.TheConstants.{LOG_SLOTS, RECORD_ROOM}
use Rattle.dym_slots.specs.declared.machine.Entry.{Entry}
use Rattle.dym_slots.specs.declared.machine.TheConstants.{RECORD_NUMBERS}
use Rattle.dym_slots.specs.declared.view.Listed.{Listed}
use Rattle.dym_slots.specs.SeatViews.{owner_of, IsOwner}
use Rattle.dym_slots.specs.TableStates.{Knowing}
use Rattle.dym_slots.specs.Moves.{IsIdleOwner}
use Rattle.dym_slots.specs.declared.view.OwnerSeat.{OwnerSeat}
use Rattle.dym_slots.specs.Meanings.{Numbered, NumbersRise, first_number}

-- each slot of the table stands once in the order
pub record IsOrder (order : List ℕ) : Type 0 where
  pub size : length order ≡ LOG_SLOTS
  pub inside : All (λ s. s < LOG_SLOTS) order
  pub differ : AllPairs (λ a b. a ≢ b) order

-- the slot at a place of the order
abbrev pub slot_at : List ℕ → ℕ → ℕ
slot_at order place = slice_index_or order place 0

-- the order after the first slots moved behind the others of the first so many
abbrev pub retired : ℕ → ℕ → List ℕ → List ℕ
retired next_spares place order = drop place (take next_spares order) ++ (take place (take next_spares order) ++ drop next_spares order)

abbrev pub numbered : Listed → Numbered
numbered x = record { number = x.entry.number; bytes = x.bytes }

abbrev pub entry_of : Listed → Entry
entry_of x = x.entry

abbrev pub slot_of : Listed → ℕ
slot_of x = x.entry.slot

abbrev pub number_of : Listed → ℕ
number_of x = x.entry.number

-- the order of the slots, the numbers of the list and the next number say what the owner's seat knows
pub record Stands (order numbers : List ℕ) (made : ℕ) (me : Knowing) : Type 0 where
  pub seat : IsOwner me.0
  pub order_is : IsOrder order
  pub slots : map slot_of (owner_of me.0).list ≡ take (length numbers) order
  pub numbers_are : map number_of (owner_of me.0).list ≡ numbers
  pub few : length numbers ≤ RECORD_ROOM
  pub next : (owner_of me.0).next ≡ made
  pub most : made ≤ RECORD_NUMBERS
  pub rise : NumbersRise (map numbered (owner_of me.0).list) made
  pub remembered : (owner_of me.0).remembered ≡ []

-- the number of the first record of an owner's list, or else the next one: all records below it were let go
abbrev pub root_of : OwnerSeat → ℕ
root_of o = first_number (map numbered o.list) o.next

-- an owner with no slot out, whose next number and remembered slots are as before, and whose list is this one
pub record HasLeft (list : List Listed) (me after : Knowing) : Type 0 where
  pub idle : IsIdleOwner after
  pub list_is : (owner_of after.0).list ≡ list
  pub next : (owner_of after.0).next ≡ (owner_of me.0).next
  pub remembered : (owner_of after.0).remembered ≡ (owner_of me.0).remembered
