-- The steps of the log table: for each event a relation between the state before and the state after. Each has the
-- conditions under which the event is a step, and `after`, which says all that it changes.
use Rattle.std.specs.Prelude.{◌≡◌, ℕ, ◌+◌, ◌<◌, ◌⊎◌, Bool, false, List, [], ◌∷◌, ◌++◌, length, Some, None, slice_set, filter, nat_lt, nat_le, nat_eq, not, if◌then◌else◌}
use Rattle.std.specs.List.{list_any}
use Rattle.dym_base.specs.declared.limits.TheConstants.{RECORD_ROOM}
use Rattle.dym_slots.specs.declared.machine.TheConstants.{RECORD_NUMBERS}
use Rattle.dym_slots.specs.declared.machine.Slot.{Slot}
use Rattle.dym_slots.specs.declared.machine.Slot.TheVariants.{Free, Live, OutOwner, OutSweeper}
use Rattle.dym_slots.specs.declared.machine.Entry.{Entry}
use Rattle.dym_slots.specs.declared.machine.Event.{Event}
use Rattle.dym_slots.specs.declared.machine.Event.TheVariants.{OwnerLook, OwnerClaim, OwnerTake, OwnerEmpty, OwnerFill, OwnerPut, OwnerLower, OwnerFree, OwnerRaise, SweeperRoot, SweeperLook, SweeperGrab, SweeperEmpty, SweeperFree}
use Rattle.dym_slots.specs.Slots.{Core, state_of, home_of, entry, IsListed}

-- The owner

-- the remembered slots after a look at s: s comes last where the look found it out with the sweeper, and a slot that
-- is remembered already keeps its place
abbrev pub remember : Slot → ℕ → List ℕ → List ℕ
remember (OutSweeper n) s slots = if list_any (λ t. nat_eq t s) slots then slots else (slots ++ s ∷ [])
remember _ s slots = slots

-- `o look S`
pub record OwnerLooks (s : ℕ) (c d : Core) : Type 0 where
  pub exists : s < length c.slots
  pub after : d ≡ record c { owner = record c.owner { remembered = remember (state_of c s) s c.owner.remembered } }

-- `o claim S`
pub record OwnerClaims (s : ℕ) (c d : Core) : Type 0 where
  pub exists : s < length c.slots
  pub idle : c.owner.out ≡ None
  pub free : state_of c s ≡ Free
  pub numbers_left : c.owner.next < RECORD_NUMBERS
  pub after : d ≡ record c { slots = slice_set c.slots s (OutOwner c.owner.next); owner = record c.owner { out = Some s } }

-- `o take S`
pub record OwnerTakes (s : ℕ) (c d : Core) : Type 0 where
  pub idle : c.owner.out ≡ None
  pub number : ℕ
  pub live : state_of c s ≡ Live number
  pub after : d ≡ record c { slots = slice_set c.slots s (OutOwner number); owner = record c.owner { out = Some s } }

-- `o swap S -`
pub record OwnerEmpties (s : ℕ) (c d : Core) : Type 0 where
  pub holds : c.owner.out ≡ Some s
  pub after : d ≡ record c { homes = slice_set c.homes s None }

-- `o swap S N`: a record of the list may only come back to its slot, and any other slot takes the next record alone
pub record OwnerFills (s n : ℕ) (c d : Core) : Type 0 where
  pub holds : c.owner.out ≡ Some s
  pub number : ℕ
  pub out : state_of c s ≡ OutOwner number
  pub own : IsListed c number → n ≡ number
  pub fresh : ¬ IsListed c number → n ≡ c.owner.next
  pub after : d ≡ record c { homes = slice_set c.homes s (Some n) }

-- `o put S`
pub record OwnerPuts (s : ℕ) (c d : Core) : Type 0 where
  pub holds : c.owner.out ≡ Some s
  pub number : ℕ
  pub out : state_of c s ≡ OutOwner number
  pub unlisted : ¬ IsListed c number
  pub at_home : home_of c s ≡ Some c.owner.next
  pub numbers_left : c.owner.next < RECORD_NUMBERS
  pub room : length c.owner.list < RECORD_ROOM
  pub after : d ≡ record c {
    slots = slice_set c.slots s (Live c.owner.next);
    owner = record { list = c.owner.list ++ entry s c.owner.next ∷ []; next = c.owner.next + 1; out = None; remembered = [] };
  }

-- `o lower S`
pub record OwnerLowers (s : ℕ) (c d : Core) : Type 0 where
  pub holds : c.owner.out ≡ Some s
  pub number : ℕ
  pub out : state_of c s ≡ OutOwner number
  pub listed : IsListed c number
  pub at_home : home_of c s ≡ Some number
  pub after : d ≡ record c { slots = slice_set c.slots s (Live number); owner = record c.owner { out = None } }

-- n is the number of the newest entry, and there is an older one
abbrev pub IsNewestOfTwo : List Entry → ℕ → Type 0
IsNewestOfTwo list n = (older : List Entry) × (s : ℕ) × (list ≡ older ++ entry s n ∷ []) × (0 < length older)

-- the entries without the number n
abbrev pub without : ℕ → List Entry → List Entry
without n = filter (λ e. not (nat_eq e.number n))

-- `o free S`
pub record OwnerFrees (s : ℕ) (c d : Core) : Type 0 where
  pub holds : c.owner.out ≡ Some s
  pub number : ℕ
  pub out : state_of c s ≡ OutOwner number
  pub empty : home_of c s ≡ None
  pub loose : (¬ IsListed c number) ⊎ IsNewestOfTwo c.owner.list number
  pub after : d ≡ record c {
    slots = slice_set c.slots s Free;
    owner = record c.owner { list = without number c.owner.list; out = None };
  }

-- the entries from the number n on
abbrev pub from_number : ℕ → List Entry → List Entry
from_number n = filter (λ e. nat_le n e.number)

-- `o raise N`
pub record OwnerRaises (n : ℕ) (c d : Core) : Type 0 where
  pub idle : c.owner.out ≡ None
  pub listed : IsListed c n
  pub after : d ≡ record c { root = n; owner = record c.owner { list = from_number n c.owner.list } }

-- The sweeper

-- whether a slot is Live with a number below the root seen
abbrev pub is_retired : ℕ → Slot → Bool
is_retired seen (Live n) = nat_lt n seen
is_retired seen _ = false

-- `s root`
pub record SweeperReadsRoot (c d : Core) : Type 0 where
  pub idle : c.sweeper.out ≡ None
  pub after : d ≡ record c { sweeper = record c.sweeper { root_seen = c.root; clean = 0 } }

-- `s look S`
pub record SweeperLooks (s : ℕ) (c d : Core) : Type 0 where
  pub exists : s < length c.slots
  pub idle : c.sweeper.out ≡ None
  pub in_turn : s ≡ c.sweeper.clean
  pub after : d ≡ record c {
    sweeper = record c.sweeper { clean = if is_retired c.sweeper.root_seen (state_of c s) then c.sweeper.clean else (c.sweeper.clean + 1) };
  }

-- `s grab S`
pub record SweeperGrabs (s : ℕ) (c d : Core) : Type 0 where
  pub idle : c.sweeper.out ≡ None
  pub number : ℕ
  pub live : state_of c s ≡ Live number
  pub retired : number < c.sweeper.root_seen
  pub after : d ≡ record c { slots = slice_set c.slots s (OutSweeper number); sweeper = record c.sweeper { out = Some s } }

-- `s swap S`
pub record SweeperEmpties (s : ℕ) (c d : Core) : Type 0 where
  pub holds : c.sweeper.out ≡ Some s
  pub after : d ≡ record c { homes = slice_set c.homes s None }

-- `s free S`
pub record SweeperFrees (s : ℕ) (c d : Core) : Type 0 where
  pub holds : c.sweeper.out ≡ Some s
  pub empty : home_of c s ≡ None
  pub after : d ≡ record c {
    slots = slice_set c.slots s Free;
    sweeper = record c.sweeper { out = None; clean = if nat_eq s c.sweeper.clean then (c.sweeper.clean + 1) else c.sweeper.clean };
  }

-- All steps

-- the event leads from the state c to the state d
abbrev pub Step : Event → Core → Core → Type 0
Step (OwnerLook s) c d = OwnerLooks s c d
Step (OwnerClaim s) c d = OwnerClaims s c d
Step (OwnerTake s) c d = OwnerTakes s c d
Step (OwnerEmpty s) c d = OwnerEmpties s c d
Step (OwnerFill s n) c d = OwnerFills s n c d
Step (OwnerPut s) c d = OwnerPuts s c d
Step (OwnerLower s) c d = OwnerLowers s c d
Step (OwnerFree s) c d = OwnerFrees s c d
Step (OwnerRaise n) c d = OwnerRaises n c d
Step SweeperRoot c d = SweeperReadsRoot c d
Step (SweeperLook s) c d = SweeperLooks s c d
Step (SweeperGrab s) c d = SweeperGrabs s c d
Step (SweeperEmpty s) c d = SweeperEmpties s c d
Step (SweeperFree s) c d = SweeperFrees s c d

-- the events lead, one after another, from the state c to the state d
abbrev pub Steps : List Event → Core → Core → Type 0
Steps [] c d = c ≡ d
Steps (e ∷ es) c d = (m : Core) × Step e c m × Steps es m d
