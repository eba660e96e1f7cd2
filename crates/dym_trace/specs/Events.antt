-- The text of an event.
use Rattle.std.specs.Prelude.{◌≡◌, ℕ, ◌^◌, ◌<◌, List, ◌++◌, codes}
use Rattle.std.specs.Fmt.{decimal}
use Rattle.dym_base.specs.declared.limits.TheConstants.{LOG_SLOTS}
use Rattle.dym_slots.specs.declared.machine.Event.{Event}
use Rattle.dym_slots.specs.declared.machine.Event.TheVariants.{OwnerLook, OwnerClaim, OwnerTake, OwnerEmpty, OwnerFill, OwnerPut, OwnerLower, OwnerFree, OwnerRaise, SweeperRoot, SweeperLook, SweeperGrab, SweeperEmpty, SweeperFree}

-- the words of an event, with one space between each two; a number is decimal, without leading zeros
abbrev pub event_text : Event → List ℕ
event_text (OwnerLook s) = codes "o look " ++ decimal s
event_text (OwnerClaim s) = codes "o claim " ++ decimal s
event_text (OwnerTake s) = codes "o take " ++ decimal s
event_text (OwnerEmpty s) = codes "o swap " ++ (decimal s ++ codes " -")
event_text (OwnerFill s n) = codes "o swap " ++ (decimal s ++ (codes " " ++ decimal n))
event_text (OwnerPut s) = codes "o put " ++ decimal s
event_text (OwnerLower s) = codes "o lower " ++ decimal s
event_text (OwnerFree s) = codes "o free " ++ decimal s
event_text (OwnerRaise n) = codes "o raise " ++ decimal n
event_text SweeperRoot = codes "s root"
event_text (SweeperLook s) = codes "s look " ++ decimal s
event_text (SweeperGrab s) = codes "s grab " ++ decimal s
event_text (SweeperEmpty s) = codes "s swap " ++ decimal s
event_text (SweeperFree s) = codes "s free " ++ decimal s

-- the event names a slot of the table, and a number of 64 bits
abbrev pub IsInRange : Event → Type 0
IsInRange (OwnerLook s) = s < LOG_SLOTS
IsInRange (OwnerClaim s) = s < LOG_SLOTS
IsInRange (OwnerTake s) = s < LOG_SLOTS
IsInRange (OwnerEmpty s) = s < LOG_SLOTS
IsInRange (OwnerFill s n) = (s < LOG_SLOTS) × (n < 2 ^ 64)
IsInRange (OwnerPut s) = s < LOG_SLOTS
IsInRange (OwnerLower s) = s < LOG_SLOTS
IsInRange (OwnerFree s) = s < LOG_SLOTS
IsInRange (OwnerRaise n) = n < 2 ^ 64
IsInRange SweeperRoot = Unit {0}
IsInRange (SweeperLook s) = s < LOG_SLOTS
IsInRange (SweeperGrab s) = s < LOG_SLOTS
IsInRange (SweeperEmpty s) = s < LOG_SLOTS
IsInRange (SweeperFree s) = s < LOG_SLOTS

-- the line is this event
pub record Reads (line : List ℕ) (e : Event) : Type 0 where
  pub text : line ≡ event_text e
  pub in_range : IsInRange e
