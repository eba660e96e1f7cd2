-- The parts of a script of late events that was read, and what one line does to a heap of late events.
use Rattle.std.specs.Prelude.{◌≡◌, ℕ, ◌<◌, ◌≤◌, ◌==◌, ◌++◌, false, List, All, length, map, filter, count_by, slice_index_or}
use Rattle.dym_base.specs.LateRun.{Arrival, accepted_after, bound_after}
use Rattle.dym_base.specs.declared.limits.TheConstants.{MOST_QUOTA}
use Rattle.dym_late.specs.Meaning.{LateMeaning}
use Rattle.dym_base.specs.declared.limits.TheConstants.{MOST_LATE_EVENTS}
use Rattle.dym_script.specs.declared.late_script.LateAct.{LateAct}
use Rattle.dym_script.specs.declared.late_script.LateLine.{LateLine}
use Rattle.dym_script.specs.declared.script.Decl.{Decl}
use Rattle.dym_script.specs.Late.{is_event}
use Rattle.dym_script.specs.LateArrivals.{arrival, MayAct}
use Rattle.dymelor_top.specs.declared.late_parts.LatePart.{LatePart}
use Rattle.dymelor_top.specs.declared.late_outcome.LateOutcome.{LateOutcome}
use Rattle.dymelor_top.specs.declared.late_outcome.LateOutcome.TheVariants as outcome
use Rattle.dymelor_top.specs.LateReport.{late_part}

-- what comes for an object by its lines
abbrev pub arrivals_by : List LateAct → List Arrival
arrivals_by acts = map (λ act. arrival act) acts

-- the part of the report that an object's lines give
abbrev pub late_part_text : LatePart → List ℕ
late_part_text part = late_part part.decl.name part.decl.quota (arrivals_by part.acts.items)

-- what those of the lines say that are one object's
abbrev pub acts_of : List LateLine → ℕ → List LateAct
acts_of lines k = map (λ line. line.act) (filter (λ line. line.object == k) lines)

-- each part has what its object's lines say
abbrev pub EachHasActs : List LatePart → List LateLine → Type 0
EachHasActs parts lines = (k : ℕ) (d : LatePart) → k < length parts → (slice_index_or parts k d).acts.items ≡ acts_of lines k

-- the parts are those of these declarations and lines
pub record AreLateParts (parts : List LatePart) (objects : List Decl) (lines : List LateLine) : Type 0 where
  pub decls : map (λ part. part.decl) parts ≡ objects
  pub acts : EachHasActs parts lines

-- the quota is one, and the lines have no more events than a heap of late events takes, each with a command that it may have
pub record IsLatePart (part : LatePart) : Type 0 where
  pub quota_least : 1 ≤ part.decl.quota
  pub quota_most : part.decl.quota ≤ MOST_QUOTA
  pub acts : All MayAct part.acts.items
  pub few : count_by is_event part.acts.items ≤ MOST_LATE_EVENTS

-- a heap of late events took in what came: it accepted what is accepted behind its bound, and its bound is the one after it
pub record TookIn (old new : LateMeaning) (arrivals : List Arrival) : Type 0 where
  pub events : new.events ≡ old.events ++ accepted_after old.bound arrivals
  pub bound : new.bound ≡ bound_after old.bound arrivals
  pub whole : new.broken ≡ false
  pub quota : new.heap.quota ≡ old.heap.quota

-- an event that was accepted is one of so many
abbrev pub IsOneOf : ℕ → LateOutcome → Type 0
IsOneOf count (outcome.Accepted number) = number < count
IsOneOf count (outcome.Early bound) = Unit {0}
IsOneOf count outcome.Committed = Unit {0}
