-- The log table: one slot array that an owner and a sweeper work on, each with a view of its own. A record is named
-- by its number. The number of slots is left open: a log table of the product has LOG_SLOTS of them.
use Rattle.std.specs.Prelude.{ℕ, List, [], Option, None, replicate, slice_index_or, Contains}
use Rattle.dym_slots.specs.declared.machine.Slot.{Slot}
use Rattle.dym_slots.specs.declared.machine.Slot.TheVariants.{Free}
use Rattle.dym_slots.specs.declared.machine.Entry.{Entry}

-- what the owner knows: its list, oldest entry first, the number of the next record, the slot that it has out, and
-- the slots that it saw out with the sweeper since its last `put`, in the order of seeing them
pub record OwnerView : Type 0 where
  pub list : List Entry
  pub next : ℕ
  pub out : Option ℕ
  pub remembered : List ℕ

-- what the sweeper knows: the root as it saw it last, the slot that it has out, and how many slots from slot 0 on
-- it found clean since
pub record SweeperView : Type 0 where
  pub root_seen : ℕ
  pub out : Option ℕ
  pub clean : ℕ

-- the table and the two views: `slots` has the state of each slot, `homes` the record at home in each slot
pub record Core : Type 0 where
  pub root : ℕ
  pub slots : List Slot
  pub homes : List (Option ℕ)
  pub owner : OwnerView
  pub sweeper : SweeperView

-- the start, at so many slots
abbrev pub start : ℕ → Core
start count = record {
  root = 0;
  slots = replicate count Free;
  homes = replicate count None;
  owner = record { list = []; next = 0; out = None; remembered = [] };
  sweeper = record { root_seen = 0; out = None; clean = 0 };
}

-- the state of a slot
abbrev pub state_of : Core → ℕ → Slot
state_of c s = slice_index_or c.slots s Free

-- the record at home in a slot, or nothing
abbrev pub home_of : Core → ℕ → Option ℕ
home_of c s = slice_index_or c.homes s None

-- the entry that says that the record n stands in the slot s
abbrev pub entry : ℕ → ℕ → Entry
entry s n = record { slot = s; number = n }

-- the list has an entry of this number
abbrev pub HasNumber : List Entry → ℕ → Type 0
HasNumber list n = (s : ℕ) × Contains list (entry s n)

-- (s, n) is an entry of the owner's list
abbrev pub IsEntry : Core → ℕ → ℕ → Type 0
IsEntry c s n = Contains c.owner.list (entry s n)

-- the number n is in the owner's list
abbrev pub IsListed : Core → ℕ → Type 0
IsListed c n = HasNumber c.owner.list n
