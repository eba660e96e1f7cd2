-- What the seats of a running log table know, and how it shows the views of the machine. A record stands in the owner's
-- list with its bytes.
use Rattle.std.specs.Prelude.{◌≡◌, ℕ, ◌+◌, ◌-◌, max, List, [], ◌∷◌, ◌++◌, map, filter, take, length, slice_index_or, Option, Some, None, option_map, nat_eq, nat_le, if◌then◌else◌}
use Rattle.dym_slots.specs.declared.machine.Slot.{Slot}
use Rattle.dym_slots.specs.declared.machine.Entry.{Entry}
use Rattle.dym_slots.specs.Slots.{OwnerView, SweeperView, entry}
use Rattle.dym_slots.specs.SlotSteps.{remember, is_retired}
use Rattle.dym_slots.specs.SlotNotes.{Look, OwnerNote, SweeperNote, live_number}
use Rattle.dym_slots.specs.declared.view.Listed.{Listed}
use Rattle.dym_slots.specs.declared.view.Glimpse.{Glimpse}
use Rattle.dym_slots.specs.declared.view.OwnerSeat.{OwnerSeat}
use Rattle.dym_slots.specs.declared.view.SweeperSeat.{SweeperSeat}
use Rattle.dym_slots.specs.declared.view.SeatView.{SeatView}
use Rattle.dym_slots.specs.declared.view.SeatView.TheVariants.{Owns, Sweeps, Knows}

-- the bytes of each record, by its number
abbrev pub Naming : Type 0
Naming = ℕ → List ℕ

-- an entry with its record's bytes
abbrev pub listed : Naming → Entry → Listed
listed records e = record { entry = e; bytes = records e.number }

abbrev pub glimpse : ℕ → Slot → Glimpse
glimpse s found = record { slot = s; found = found }

abbrev pub glimpse_of : Look → Glimpse
glimpse_of l = glimpse l.slot l.found

-- how the seats show the machine's views and notes
abbrev pub owner_seat : Naming → OwnerView → OwnerNote → OwnerSeat
owner_seat records v note = record {
  list = map (listed records) v.list;
  next = v.next;
  out = v.out;
  remembered = v.remembered;
  look = option_map glimpse_of note;
}

abbrev pub sweeper_seat : ℕ → SweeperView → SweeperNote → SweeperSeat
sweeper_seat least_root v note = record {
  root_seen = v.root_seen;
  least_root = least_root;
  out = v.out;
  clean = v.clean;
  found = note.found;
  rounds = note.rounds;
  taken_back = note.taken_back;
}

-- The start

abbrev pub new_owner : OwnerSeat
new_owner = record { list = []; next = 0; out = None; remembered = []; look = None }

abbrev pub new_sweeper : SweeperSeat
new_sweeper = record { root_seen = 0; least_root = 0; out = None; clean = 0; found = None; rounds = 0; taken_back = 0 }

-- what an owner's seat knows, what a sweeper's does, and the root that a note knows
abbrev pub owner_of : SeatView → OwnerSeat
owner_of (Owns o) = o
owner_of _ = new_owner

abbrev pub sweeper_of : SeatView → SweeperSeat
sweeper_of (Sweeps w) = w
sweeper_of _ = new_sweeper

abbrev pub known_root : SeatView → ℕ
known_root (Knows root) = root
known_root _ = 0

abbrev pub IsOwner : SeatView → Type 0
IsOwner v = v ≡ Owns (owner_of v)

abbrev pub IsSweeper : SeatView → Type 0
IsSweeper v = v ≡ Sweeps (sweeper_of v)

-- The owner's steps

-- the last look is forgotten at a step on its slot
abbrev pub past : ℕ → Option Glimpse → Option Glimpse
past s None = None
past s (Some g) = if nat_eq g.slot s then None else (Some g)

-- after a look at the slot s, which was found in a state
abbrev pub looked : ℕ → Slot → OwnerSeat → OwnerSeat
looked s found o = record o { remembered = remember found s o.remembered; look = Some (glimpse s found) }

-- after a claim or a take of the slot s
abbrev pub holding : ℕ → OwnerSeat → OwnerSeat
holding s o = record o { out = Some s; look = past s o.look }

-- after the slot s became Live under the next number
abbrev pub with_put : ℕ → List ℕ → OwnerSeat → OwnerSeat
with_put s bytes o = record {
  list = o.list ++ record { entry = entry s o.next; bytes = bytes } ∷ [];
  next = o.next + 1;
  out = None;
  remembered = [];
  look = past s o.look;
}

-- after the slot s was brought back
abbrev pub lowered : ℕ → OwnerSeat → OwnerSeat
lowered s o = record o { out = None; look = past s o.look }

-- what stands at a place past the end
abbrev pub no_listed : Listed
no_listed = record { entry = entry 0 0; bytes = [] }

-- the newest entry of a list, and those before it
abbrev pub newest_of : List Listed → Listed
newest_of list = slice_index_or list (length list - 1) no_listed

abbrev pub older_of : List Listed → List Listed
older_of list = take (length list - 1) list

-- after the newest entry's slot s became Free: the older entries are left
abbrev pub newest_freed : ℕ → OwnerSeat → OwnerSeat
newest_freed s o = record o { list = older_of o.list; out = None; look = past s o.look }

-- after a raise to the number n: the entries from that number on are left, as the machine's `from_number` leaves them
abbrev pub raised_to : ℕ → OwnerSeat → OwnerSeat
raised_to n o = record o { list = filter (λ x. nat_le n x.entry.number) o.list }

-- The sweeper's steps

-- after the root was read
abbrev pub with_root : ℕ → SweeperSeat → SweeperSeat
with_root root w = record w { root_seen = root; clean = 0; found = None; rounds = w.rounds + 1 }

-- after a look at the slot of the clean count, which was found in a state
abbrev pub glanced : Slot → SweeperSeat → SweeperSeat
glanced state w = record w {
  clean = if is_retired w.root_seen state then w.clean else (w.clean + 1);
  found = if is_retired w.root_seen state then live_number state else None;
}

-- after a grab of the slot s
abbrev pub grabbed : ℕ → SweeperSeat → SweeperSeat
grabbed s w = record w { out = Some s }

-- after the slot of the clean count became Free
abbrev pub with_taken_back : SweeperSeat → SweeperSeat
with_taken_back w = record w { out = None; clean = w.clean + 1; found = None; taken_back = w.taken_back + 1 }

-- after a note said that the root has reached a number
abbrev pub with_least_root : ℕ → SweeperSeat → SweeperSeat
with_least_root root w = record w { least_root = max root w.least_root }
