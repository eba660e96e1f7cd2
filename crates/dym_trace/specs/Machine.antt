-- What the checker's machine means: the state of the log table.
use Rattle.std.specs.Prelude.{◌≡◌, ◌⊎◌, ℕ, List, length, Bool, true, false}
use Rattle.dym_base.specs.declared.limits.TheConstants.{LOG_SLOTS}
use Rattle.dym_slots.specs.declared.machine.Entry.{Entry}
use Rattle.dym_slots.specs.Slots.{Core, HasNumber}
use Rattle.dym_slots.specs.SlotSteps.{IsNewestOfTwo, without, from_number}
use Rattle.dym_slots.specs.SlotFacts.{Facts}
use Rattle.dym_trace.specs.declared.machine.Machine.{Machine}

-- the state that the fields hold
abbrev pub core_of : Machine → Core
core_of m = record {
  root = m.root;
  slots = m.slots.items;
  homes = m.homes.items;
  owner = record { list = m.list.items; next = m.next; out = m.owner_out; remembered = m.remembered.items };
  sweeper = record { root_seen = m.root_seen; out = m.sweeper_out; clean = m.clean };
}

-- the machine has all slots of a table, and meets the facts
pub record IsSound (m : Machine) : Type 0 where
  pub slots : length m.slots.items ≡ LOG_SLOTS
  pub facts : Facts (core_of m)

-- The answer says whether the step can be done, and where it can, the new machine is the state after it.
abbrev pub Does : (Core → Core → Type 0) → Machine → Machine → Bool → Type 0
Does Relation m n true = Relation (core_of m) (core_of n)
Does Relation m n false = (d : Core) → ¬ Relation (core_of m) d

-- The answer says whether n is the newest number and not the only one; where it is, its entry is gone.
abbrev pub DropsNewest : ℕ → List Entry → List Entry → Bool → Type 0
DropsNewest n list after true = IsNewestOfTwo list n × (after ≡ without n list)
DropsNewest n list after false = ¬ IsNewestOfTwo list n

-- The answer says whether n is in the list; where it is, the older entries are gone.
abbrev pub DropsOlder : ℕ → List Entry → List Entry → Bool → Type 0
DropsOlder n list after true = HasNumber list n × (after ≡ from_number n list)
DropsOlder n list after false = ¬ HasNumber list n

-- The answer says whether the slot that the owner has out under n may become Free; where it may, n is out of the list.
abbrev pub LetsGo : ℕ → Machine → Machine → Bool → Type 0
LetsGo n m after true = ((¬ HasNumber m.list.items n) ⊎ IsNewestOfTwo m.list.items n) × (after ≡ record m { list = after.list }) × (after.list.items ≡ without n m.list.items)
LetsGo n m after false = (¬ ¬ HasNumber m.list.items n) × (¬ IsNewestOfTwo m.list.items n)
