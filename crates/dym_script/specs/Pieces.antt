-- A script that is read piece by piece.
use Rattle.std.specs.Prelude.{◌≡◌, ◌+◌, ◌-◌, ◌<◌, ◌≤◌, ◌==◌, ℕ, false, List, [], ◌++◌, length, take, get_or, Result, Ok, Err}
use denote.Ref.{Bor}
use Rattle.dym_script.specs.declared.line_fail.LineFail.{LineFail}
use Rattle.dym_script.specs.declared.line_fail.LineFail.TheVariants as line
use Rattle.dym_script.specs.declared.script.ScriptFail.{ScriptFail}
use Rattle.dym_script.specs.declared.script.ScriptFail.TheVariants as fail
use Rattle.dym_base.specs.Lines.{lines_of}
use Rattle.dym_script.specs.Scripts.{ScriptMeaning, Reading, Fault, start, read_lines}

-- what the lines of an input say, however long it is
abbrev pub says : List ℕ → Result ScriptMeaning Fault
says text = read_lines start 1 (lines_of text)

-- whatever stands behind the text begins a new line
abbrev pub IsEnded : List ℕ → Type 0
IsEnded text = (more : List ℕ) → lines_of (text ++ more) ≡ lines_of text ++ lines_of more

-- no line ends in the text
abbrev pub IsOpen : List ℕ → Type 0
IsOpen text = (k : ℕ) → k < length text → (get_or text k 0 == 10) ≡ false

-- where a reader of lines is fit, stands for these readings and has read so many lines: all lines of this text are ended, they
-- were read, and none of them is bad. Other lines behind them are read on from one of the readings
pub record Took (Fit : Type 0) (Stands : Reading → Type 0) (number : ℕ) (taken : List ℕ) : Type 0 where
  pub fit : Fit
  pub ended : IsEnded taken
  pub short : number ≤ length taken
  pub now : Reading
  pub stands : Stands now
  pub read : (others : List (List ℕ)) → read_lines start 1 (lines_of taken ++ others) ≡ read_lines now (number + 1) others

-- behind any text that was taken the ended lines of a piece are taken too, and a bad line is the first bad one of every input
-- that goes on with the piece, unless memory ran out
abbrev pub TakesPiece : (List ℕ → Type 0) → (List ℕ → Type 0) → List ℕ → Result ℕ ScriptFail → Type 0
TakesPiece Before After text (Ok left) = (taken : List ℕ) → Before taken → After (taken ++ take (length text - left) text)
TakesPiece Before After text (Err (fail.Bad line kind)) = (taken more : List ℕ) → Before taken → says (taken ++ text ++ more) ≡ Err (record { line = line; kind = kind })
TakesPiece Before After text (Err fail.Memory) = Unit {0}

-- from each reading that was stood for before these lines, the grammar comes to one that is stood for after them, and reads
-- the lines that are left, and others behind them, from there
abbrev pub ReadsFront : (Reading → Type 0) → (Reading → Type 0) → ℕ → ℕ → List (List ℕ) → List (List ℕ) → Result Unit ScriptFail → Type 0
ReadsFront Before After n m lines left (Ok _) = (old : Reading) → Before old → (new : Reading) × After new × ((others : List (List ℕ)) → read_lines old (n + 1) (lines ++ others) ≡ read_lines new (m + 1) (left ++ others))
ReadsFront Before After n m lines left (Err (fail.Bad line kind)) = (old : Reading) → Before old → (others : List (List ℕ)) → read_lines old (n + 1) (lines ++ others) ≡ Err (record { line = line; kind = kind })
ReadsFront Before After n m lines left (Err fail.Memory) = Unit {0}

-- all lines of a text are read so
abbrev pub ReadsText : (Reading → Type 0) → (Reading → Type 0) → ℕ → ℕ → List ℕ → Result Unit ScriptFail → Type 0
ReadsText Before After n m text result = ReadsFront Before After n m (lines_of text) [] result

-- the same of the first line of a text, where the rest is left
abbrev pub ReadsNext : (Reading → Type 0) → (Reading → Type 0) → ℕ → List ℕ → Result (Bor (List ℕ)) LineFail → Type 0
ReadsNext Before After number text (Ok rest) = (old : Reading) → Before old → (new : Reading) × After new × ((others : List (List ℕ)) → read_lines old number (lines_of text ++ others) ≡ read_lines new (number + 1) (lines_of rest.now ++ others))
ReadsNext Before After number text (Err (line.Bad kind)) = (old : Reading) → Before old → (others : List (List ℕ)) → read_lines old number (lines_of text ++ others) ≡ Err (record { line = number; kind = kind })
ReadsNext Before After number text (Err line.Memory) = Unit {0}
