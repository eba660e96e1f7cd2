-- The verdict on a trace.
use Rattle.std.specs.Prelude.{◌≡◌, ℕ, ◌-◌, ◌<◌, ◌≤◌, List, [], length, take, slice_index_or}
use Rattle.std.specs.List.{AllZip}
use Rattle.dym_base.specs.declared.limits.TheConstants.{LOG_SLOTS}
use Rattle.dym_slots.specs.declared.machine.Event.{Event}
use Rattle.dym_slots.specs.Slots.{Core, start}
use Rattle.dym_slots.specs.SlotSteps.{Step, Steps}
use Rattle.dym_trace.specs.declared.answer.TraceAnswer.{TraceAnswer}
use Rattle.dym_trace.specs.declared.answer.TraceAnswer.TheVariants.{Good, Bad}
use Rattle.dym_base.specs.Lines.{lines_of}
use Rattle.dym_trace.specs.Events.{Reads}

-- the lines are events, which lead from the start to this state
pub record Reach (lines : List (List ℕ)) (c : Core) : Type 0 where
  pub events : List Event
  pub read : AllZip Reads lines events
  pub steps : Steps events (start LOG_SLOTS) c

-- the line is an event that leads from the state c to the state d
pub record LineStep (line : List ℕ) (c d : Core) : Type 0 where
  pub event : Event
  pub read : Reads line event
  pub step : Step event c d

-- the line is no event, or none that is a step from this state
abbrev pub IsNoStep : List ℕ → Core → Type 0
IsNoStep line c = (d : Core) → ¬ LineStep line c d

-- a line is at most one event
abbrev pub OneReading : Type 0
OneReading = (line : List ℕ) (e f : Event) → Reads line e → Reads line f → e ≡ f

-- all lines are events and steps
pub record IsGood (lines : List (List ℕ)) (events : ℕ) : Type 0 where
  pub state : Core
  pub reached : Reach lines state
  pub all : events ≡ length lines

-- the lines before this one reach a state, from which this one is no step
pub record IsBad (lines : List (List ℕ)) (line : ℕ) : Type 0 where
  pub within : (0 < line) × (line ≤ length lines)
  pub state : Core
  pub reached : Reach (take (line - 1) lines) state
  pub no_step : IsNoStep (slice_index_or lines (line - 1) []) state

-- the verdict on the bytes of a trace
abbrev pub IsVerdict : List ℕ → TraceAnswer → Type 0
IsVerdict bytes (Good events) = IsGood (lines_of bytes) events
IsVerdict bytes (Bad line) = IsBad (lines_of bytes) line

-- a trace has exactly one verdict
abbrev pub OneVerdict : Type 0
OneVerdict = (bytes : List ℕ) → (x : TraceAnswer) × IsVerdict bytes x × ((y : TraceAnswer) → IsVerdict bytes y → y ≡ x)
