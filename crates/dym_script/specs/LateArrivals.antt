-- A good script of late events by its objects: what comes for one of them, and what holds of each script that is read.
use Rattle.std.specs.Prelude.{ℕ, ◌==◌, ◌<◌, ◌≤◌, IsTrue, List, All, length, map, filter}
use Rattle.dym_base.specs.LateRun.{Arrival, event, commit, accepted, IsEventCommand}
use Rattle.dym_base.specs.Names.{is_name}
use Rattle.dym_base.specs.declared.limits.TheConstants.{MOST_OBJECTS, MOST_QUOTA}
use Rattle.dym_base.specs.declared.limits.TheConstants.{MOST_LATE_LINES, MOST_LATE_EVENTS}
use Rattle.dym_script.specs.declared.late_script.LateAct.{LateAct}
use Rattle.dym_script.specs.declared.late_script.LateAct.TheVariants.{At, Commit}
use Rattle.dym_script.specs.declared.late_script.LateLine.{LateLine}
use Rattle.dym_script.specs.Late.{LateScriptMeaning, events_of}

-- what comes for the object of a line
abbrev pub arrival : LateAct → Arrival
arrival (At time command) = event (record { time = time; command = command })
arrival (Commit time) = commit time

-- what comes for one object, in the order of its lines
abbrev pub arrivals_of : List LateLine → ℕ → List Arrival
arrivals_of lines object = map (λ line. arrival line.act) (filter (λ line. line.object == object) lines)

-- the command of a line is one that an event may have
abbrev pub MayAct : LateAct → Type 0
MayAct (At time command) = IsEventCommand command
MayAct (Commit time) = Unit {0}

-- what holds of each script of late events that is read
pub record IsLawfulLate (s : LateScriptMeaning) : Type 0 where
  pub objects : length s.objects ≤ MOST_OBJECTS
  pub lines : length s.lines ≤ MOST_LATE_LINES
  pub names : All (λ d. IsTrue (is_name d.name)) s.objects
  pub quotas : All (λ d. (1 ≤ d.quota) × (d.quota ≤ MOST_QUOTA)) s.objects
  pub declared : All (λ line. line.object < length s.objects) s.lines
  pub acts : All (λ line. MayAct line.act) s.lines
  pub events : (object : ℕ) → events_of s.lines object ≤ MOST_LATE_EVENTS

-- no more events of an object are accepted than its lines have
abbrev pub NoMoreAreAccepted : Type 0
NoMoreAreAccepted = (lines : List LateLine) (object : ℕ) → length (accepted (arrivals_of lines object)) ≤ events_of lines object
