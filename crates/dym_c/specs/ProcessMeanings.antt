-- What C keeps of a process.
use Rattle.std.specs.Prelude.{⊤, ℕ, List, [], ◌∷◌, get_or}
use Rattle.warp_base.specs.declared.event.Event.{Event}
use Rattle.warp_base.specs.declared.event.Message.{Message}
use Rattle.warp_object.specs.Processes.{IsRecorded}
use Rattle.dym_c.specs.declared.events.DymData.{DymData}
use Rattle.dym_c.specs.declared.process_content.Phase.{Phase}
use Rattle.dym_c.specs.declared.process_content.Phase.TheVariants.{Starting, Running}

-- the numbers that an event carries, in the order in which they are compared
abbrev pub words : DymData → List ℕ
words d = d.first ∷ d.second ∷ d.third ∷ d.fourth ∷ []

-- what carries these numbers
abbrev pub data_of : List ℕ → DymData
data_of ws = record { first = get_or ws 0 0; second = get_or ws 1 0; third = get_or ws 2 0; fourth = get_or ws 3 0 }

-- how far a process is; the messages that are to be delivered; the events that the last commit committed
pub record ProcessMeaning : Type 0 where
  pub phase : Phase
  pub out : List (Message DymData)
  pub committed : List (Event DymData)

-- what is true of a process, once it is started
abbrev pub IsRecordedPhase : Phase → Type 0
IsRecordedPhase (Starting start) = ⊤
IsRecordedPhase (Running p) = IsRecorded words p

-- a process that isn't started yet
abbrev pub IsStarting : Phase → Type 0
IsStarting (Starting start) = ⊤
IsStarting (Running p) = ⊥
