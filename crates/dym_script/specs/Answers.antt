-- What a reader of the code answers, against what the grammar gives.
use Rattle.std.specs.Prelude.{◌≡◌, ◌≤◌, ◌<◌, IsTrue, Result, Ok, Err, All, length}
use Rattle.dym_base.specs.Names.{is_name}
use Rattle.dym_base.specs.declared.limits.TheConstants.{MOST_OBJECTS, MOST_COMMANDS, MOST_QUOTA}
use Rattle.dym_base.specs.declared.bad_kind.BadKind.{BadKind}
use Rattle.dym_script.specs.declared.line_fail.LineFail.{LineFail}
use Rattle.dym_script.specs.declared.line_fail.LineFail.TheVariants as line
use Rattle.dym_script.specs.declared.script.Script.{Script}
use Rattle.dym_script.specs.declared.script.ScriptFail.{ScriptFail}
use Rattle.dym_script.specs.declared.script.ScriptFail.TheVariants as fail
use Rattle.dym_script.specs.Scripts.{ScriptMeaning, Fault, said}

-- the answer of a reader of one line is what the grammar gives, unless memory ran out
abbrev pub GivesLine : {X Y : Type 0} → (X → Y) → Result X LineFail → Result Y BadKind → Type 0
GivesLine view (Ok x) read = read ≡ Ok (view x)
GivesLine view (Err (line.Bad kind)) read = read ≡ Err kind
GivesLine view (Err line.Memory) read = Unit {0}

-- the answer of the reader of scripts is what the grammar gives, unless memory ran out
abbrev pub Gives : Result Script ScriptFail → Result ScriptMeaning Fault → Type 0
Gives (Ok script) read = read ≡ Ok (said script)
Gives (Err (fail.Bad line kind)) read = read ≡ Err (record { line = line; kind = kind })
Gives (Err fail.Memory) read = Unit {0}

-- no script is read for this reason, which is what the grammar gives, unless memory ran out
abbrev pub FailsSo : ScriptFail → Result ScriptMeaning Fault → Type 0
FailsSo (fail.Bad line kind) read = read ≡ Err (record { line = line; kind = kind })
FailsSo fail.Memory read = Unit {0}

-- what a reader makes of a script is that of what the grammar gives, unless memory ran out
abbrev pub GivesBy : {M : Type 0} → (M → ScriptMeaning → Type 0) → Result M ScriptFail → Result ScriptMeaning Fault → Type 0
GivesBy tells (Ok made) read = (s : ScriptMeaning) × (read ≡ Ok s) × tells made s
GivesBy tells (Err failed) read = FailsSo failed read

-- what holds of each script that is read
pub record IsLawful (s : ScriptMeaning) : Type 0 where
  pub objects : length s.objects ≤ MOST_OBJECTS
  pub lines : length s.lines ≤ MOST_COMMANDS
  pub names : All (λ d. IsTrue (is_name d.name)) s.objects
  pub quotas : All (λ d. (1 ≤ d.quota) × (d.quota ≤ MOST_QUOTA)) s.objects
  pub declared : All (λ line. line.object < length s.objects) s.lines
