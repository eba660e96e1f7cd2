-- What the calls of a process do that run nothing.
use Rattle.std.specs.Prelude.{◌≡◌, ℕ, ◌+◌, ◌++◌, List, [], length, take, drop, map, min, slice_get, Option, None, Some, Bool, true, false}
use Rattle.warp_base.specs.declared.event.Event.{Event}
use Rattle.warp_base.specs.declared.event.Message.{Message}
use Rattle.warp_object.specs.Processes.{inner, date_of}
use Rattle.warp_object.specs.declared.object_process.ObjectProcess.{ObjectProcess}
use Rattle.dym_undo_object.specs.Meaning.{UndoObjectMeaning}
use Rattle.dym_c.specs.Events.{c_event, c_message}
use Rattle.dym_c.specs.ProcessMeanings.{ProcessMeaning}
use Rattle.dym_c.specs.declared.events.DymData.{DymData}
use Rattle.dym_c.specs.declared.events.DymEvent.{DymEvent}
use Rattle.dym_c.specs.declared.events.DymMessage.{DymMessage}
use Rattle.dym_c.specs.declared.process_content.Phase.{Phase}
use Rattle.dym_c.specs.declared.process_content.Phase.TheVariants.{Starting, Running}
use Rattle.dym_c.specs.declared.process_results.DymProgress.{DymProgress}

-- an open process and its object are closed
abbrev pub IsClosingProcess : Option ProcessMeaning → Option UndoObjectMeaning → ℕ → Option ProcessMeaning
    → Option UndoObjectMeaning → Type 0
IsClosingProcess None object status new new_object = (status ≡ 11) × (new ≡ None) × (new_object ≡ object)
IsClosingProcess (Some p) object status new new_object = (status ≡ 0) × (new ≡ None) × (new_object ≡ None)

-- a log is taken after so many events
abbrev pub with_period : ℕ → Phase → Phase
with_period period (Starting start) = Starting (record start { period = period })
with_period period (Running p) = Running (record p { period = period })

abbrev pub IsSettingPeriod : Option ProcessMeaning → ℕ → ℕ → Option ProcessMeaning → Type 0
IsSettingPeriod None period status new = (status ≡ 11) × (new ≡ None)
IsSettingPeriod (Some p) period status new = (status ≡ 0) × (new ≡ Some (record p { phase = with_period period p.phase }))

-- the number of a flag
abbrev pub flag : Bool → ℕ
flag true = 1
flag false = 0

-- how far a process is: one that isn't started yet has run nothing, and its start is handed out
abbrev pub IsPhaseProgress : Phase → DymProgress → Type 0
IsPhaseProgress (Starting start) told = (told.ran ≡ 0) × (told.replays ≡ 0) × (told.is_open ≡ 1)
IsPhaseProgress (Running p) told = (told.ran ≡ date_of (inner p)) × (told.is_open ≡ flag p.is_open)
    × ((r : ℕ) → p.reached ≡ Some r → told.replays + r ≡ told.ran)

abbrev pub IsProgress : ProcessMeaning → DymProgress → Type 0
IsProgress p told = (told.outbox ≡ length p.out) × IsPhaseProgress p.phase told

abbrev pub IsTellingProgress : Option ProcessMeaning → ℕ → DymProgress → DymProgress → Type 0
IsTellingProgress None status before new = (status ≡ 11) × (new ≡ before)
IsTellingProgress (Some p) status before new = (status ≡ 0) × IsProgress p new

-- the first event that is still to be run
abbrev pub next_of : ObjectProcess DymData → Option (Event DymData)
next_of p = slice_get p.process.events.items (length p.process.marks.items)

-- its time is told
abbrev pub IsTime : Option (Event DymData) → ℕ → ℕ → ℕ → Type 0
IsTime None status before time = (status ≡ 17) × (time ≡ before)
IsTime (Some e) status before time = (status ≡ 0) × (time ≡ e.time)

abbrev IsPhaseNext : Phase → ℕ → ℕ → ℕ → Type 0
IsPhaseNext (Starting start) status before time = (status ≡ 11) × (time ≡ before)
IsPhaseNext (Running p) status before time = IsTime (next_of p) status before time

abbrev pub IsNextTime : Option ProcessMeaning → ℕ → ℕ → ℕ → Type 0
IsNextTime None status before time = (status ≡ 11) × (time ≡ before)
IsNextTime (Some p) status before time = IsPhaseNext p.phase status before time

-- a process at its start: it sent nothing yet
abbrev IsPhaseStart : ℕ → ℕ → ℕ → Phase → Type 0
IsPhaseStart number processes period (Starting start) = (start.number ≡ number) × (start.processes ≡ processes)
    × (start.period ≡ period) × (start.firsts.items ≡ [])
IsPhaseStart number processes period (Running p) = ⊥

abbrev pub IsStart : ℕ → ℕ → ℕ → ProcessMeaning → Type 0
IsStart number processes period p = IsPhaseStart number processes period p.phase × (p.out ≡ []) × (p.committed ≡ [])

-- as many of these as have room are moved to where C has it, the first ones
abbrev pub HasMoved : {A B : Type 0} → (A → B) → List A → List B → List B → ℕ → List A → Type 0
HasMoved for_c list room new_room count left = (count ≡ min (length room) (length list))
    × (new_room ≡ map for_c (take count list) ++ drop count room) × (left ≡ drop count list)

abbrev pub IsMovingMessages : Option ProcessMeaning → ℕ → List DymMessage → List DymMessage → ℕ → ℕ → Option ProcessMeaning → Type 0
IsMovingMessages None status room new_room told new_told new = (status ≡ 11) × (new_room ≡ room) × (new_told ≡ told) × (new ≡ None)
IsMovingMessages (Some p) status room new_room told new_told new = (status ≡ 0) × (left : List (Message DymData))
    × HasMoved c_message p.out room new_room new_told left × (new ≡ Some (record p { out = left }))

abbrev pub IsMovingEvents : Option ProcessMeaning → ℕ → List DymEvent → List DymEvent → ℕ → ℕ → Option ProcessMeaning → Type 0
IsMovingEvents None status room new_room told new_told new = (status ≡ 11) × (new_room ≡ room) × (new_told ≡ told) × (new ≡ None)
IsMovingEvents (Some p) status room new_room told new_told new = (status ≡ 0) × (left : List (Event DymData))
    × HasMoved c_event p.committed room new_room new_told left × (new ≡ Some (record p { committed = left }))
