-- The report of a script of late events: for each object what each of its own lines gets, and the heap that its accepted events
-- make in the order of (time, arrival).
use Rattle.std.specs.Prelude.{ℕ, ◌+◌, nat_lt, if◌then◌else◌, List, [], ◌∷◌, ◌++◌, length, flat_map, Option, None, Some}
use Rattle.dym_base.specs.LateRun.{LateEvent, Arrival, event, commit, bound_after, accepted, late_heap, late_reply, replayed}
use Rattle.dym_base.specs.declared.command.Version.TheVariants.{One}
use Rattle.dym_base.specs.declared.reply.Reply.{Reply}
use Rattle.dym_script.specs.declared.late_script.LateLine.{LateLine}
use Rattle.dym_script.specs.declared.script.Decl.{Decl}
use Rattle.dym_script.specs.Late.{LateScriptMeaning}
use Rattle.dym_script.specs.LateArrivals.{arrivals_of}
use Rattle.dym_report.specs.declared.late_lines.LateOut.TheVariants as out
use Rattle.dym_report.specs.Late.{late_line, late_end}
use Rattle.dym_report.specs.Objects.{heading}
use Rattle.dym_report.specs.Orders.{end_text}
use Rattle.dym_report.specs.Replies.{reply_line}
use Rattle.dymelor_top.specs.declared.late_outcome.LateOutcome.{LateOutcome}
use Rattle.dymelor_top.specs.declared.late_outcome.LateOutcome.TheVariants as outcome

-- what becomes of an arrival, where this is the greatest time that was committed and so many events were accepted
abbrev pub outcome_at : ℕ → ℕ → Arrival → LateOutcome
outcome_at bound number (event e) = if nat_lt e.time bound then outcome.Early bound else outcome.Accepted number
outcome_at bound number (commit t) = outcome.Committed

-- what becomes of it behind these others
abbrev pub outcome_behind : List Arrival → Arrival → LateOutcome
outcome_behind before x = outcome_at (bound_after 0 before) (length (accepted before)) x

-- what becomes of all that comes behind them, in the order of arrival
abbrev pub outcome_onto : List Arrival → List Arrival → List LateOutcome
outcome_onto before [] = []
outcome_onto before (x ∷ more) = outcome_behind before x ∷ outcome_onto (before ++ x ∷ []) more

-- what becomes of all that comes for an object
unfoldable pub outcome_of : List Arrival → List LateOutcome
outcome_of arrivals = outcome_onto [] arrivals

-- the line of a reply, where there is one
abbrev pub reply_text : Option Reply → List ℕ
reply_text None = []
reply_text (Some reply) = reply_line reply

-- the line for what became of an arrival, once these events are accepted: of an event, the reply at its place in their order
abbrev pub outcome_text : ℕ → List LateEvent → LateOutcome → List ℕ
outcome_text quota events (outcome.Accepted number) = reply_text (late_reply One quota events number)
outcome_text quota events (outcome.Early bound) = late_line (out.Early bound)
outcome_text quota events outcome.Committed = late_line out.Committed

-- the part of an object of this name and quota, for which this comes
unfoldable pub late_part : List ℕ → ℕ → List Arrival → List ℕ
late_part name quota arrivals =
    let events = accepted arrivals in
    heading name ++ flat_map (outcome_text quota events) (outcome_of arrivals) ++ late_end One (late_heap One quota events).live (replayed events)

-- the parts of the objects from the k-th on, which these declarations declare
abbrev pub late_parts_from : List LateLine → ℕ → List Decl → List ℕ
late_parts_from lines k [] = []
late_parts_from lines k (d ∷ ds) = late_part d.name d.quota (arrivals_of lines k) ++ late_parts_from lines (k + 1) ds

-- the parts of all objects in the order of their declarations, and the last line
unfoldable pub late_text : LateScriptMeaning → List ℕ
late_text said = late_parts_from said.lines 0 said.objects ++ end_text
