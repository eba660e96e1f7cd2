-- What the reader of late events keeps between two lines, and what it answers, against what the grammar gives.
use Rattle.std.specs.Prelude.{ℕ, ◌≡◌, ◌<◌, ◌≤◌, List, All, length, slice_index_or, Result, Ok, Err}
use Rattle.dym_base.specs.declared.bad_kind.BadKind.{BadKind}
use Rattle.dym_base.specs.declared.command.Version.TheVariants.{One}
use Rattle.dym_script.specs.declared.late_reader.LateReader.{LateReader}
use Rattle.dym_base.specs.declared.limits.TheConstants.{MOST_LATE_LINES, MOST_LATE_EVENTS}
use Rattle.dym_script.specs.declared.late_script.LateLine.{LateLine}
use Rattle.dym_script.specs.declared.late_script.LateScript.{LateScript}
use Rattle.dym_script.specs.declared.line_fail.LineFail.{LineFail}
use Rattle.dym_script.specs.declared.line_fail.LineFail.TheVariants as line
use Rattle.dym_script.specs.declared.script.ScriptFail.{ScriptFail}
use Rattle.dym_script.specs.declared.script.ScriptFail.TheVariants as fail
use Rattle.dym_script.specs.Scripts.{Fault}
use Rattle.dym_script.specs.Late.{LateScriptMeaning, late_said, events_of}
use Rattle.dym_script.specs.LateArrivals.{MayAct}
use Rattle.dym_script.specs.Readers.{IsValidReader}

-- what was read so far
abbrev pub late_reading_of : LateReader → LateScriptMeaning
late_reading_of r = record { objects = r.declared.objects.items; lines = r.lines.items }

-- each count is that of the events of the object in its place
abbrev pub AreCounts : List ℕ → List LateLine → Type 0
AreCounts counts lines = (object d : ℕ) → object < length counts → slice_index_or counts object d ≡ events_of lines object

-- the names are indexed, each object has its count of events, and what was read is lawful
pub record IsValidLateReader (r : LateReader) : Type 0 where
  pub index : IsValidReader r.declared
  pub version : r.declared.version ≡ One
  pub counted : length r.events.items ≡ length r.declared.objects.items
  pub counts : AreCounts r.events.items r.lines.items
  pub few : length r.lines.items ≤ MOST_LATE_LINES
  pub within : All (λ line. line.object < length r.declared.objects.items) r.lines.items
  pub acts : All (λ line. MayAct line.act) r.lines.items
  pub events : (object : ℕ) → events_of r.lines.items object ≤ MOST_LATE_EVENTS

-- what a line leaves is what the grammar gives, unless memory ran out
abbrev pub GivesLateLine : LateScriptMeaning → Result Unit LineFail → Result LateScriptMeaning BadKind → Type 0
GivesLateLine after (Ok _) read = read ≡ Ok after
GivesLateLine after (Err (line.Bad kind)) read = read ≡ Err kind
GivesLateLine after (Err line.Memory) read = Unit {0}

-- the answer of the reader of scripts of late events is what the grammar gives, unless memory ran out
abbrev pub GivesLate : Result LateScript ScriptFail → Result LateScriptMeaning Fault → Type 0
GivesLate (Ok script) read = read ≡ Ok (late_said script)
GivesLate (Err (fail.Bad line kind)) read = read ≡ Err (record { line = line; kind = kind })
GivesLate (Err fail.Memory) read = Unit {0}
