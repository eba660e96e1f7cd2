-- What is kept of a script while its lines are read: a relation that holds of the declarations and of the lines that ask
-- something.
use Rattle.std.specs.Prelude.{◌≡◌, ◌<◌, ◌≤◌, ℕ, List, [], ◌∷◌, ◌++◌, length, Result, Ok, Err}
use Rattle.dym_base.specs.declared.limits.TheConstants.{MOST_COMMANDS}
use Rattle.dym_base.specs.declared.bad_kind.BadKind.{BadKind}
use Rattle.dym_base.specs.declared.command.Command.{Command}
use Rattle.dym_base.specs.declared.command.Version.{Version}
use Rattle.dym_script.specs.declared.line_fail.LineFail.{LineFail}
use Rattle.dym_script.specs.declared.line_fail.LineFail.TheVariants as line
use Rattle.dym_script.specs.declared.reader.Reader.{Reader}
use Rattle.dym_script.specs.declared.script.Decl.{Decl}
use Rattle.dym_script.specs.declared.script.Line.{Line}
use Rattle.dym_script.specs.Scripts.{ScriptMeaning, Reading}
use Rattle.dym_script.specs.Answers.{IsLawful}
use Rattle.dym_script.specs.Readers.{IsValidReader, reading_of}

-- one declaration more is kept
abbrev pub Declares : (List Decl → List Line → Type 0) → (List Decl → List Line → Type 0) → Decl → Type 0
Declares Before After decl = (objects : List Decl) (lines : List Line) → Before objects lines → After (objects ++ decl ∷ []) lines

-- a command more to the object in a place is kept
abbrev pub Asks : (List Decl → List Line → Type 0) → (List Decl → List Line → Type 0) → ℕ → Command → Type 0
Asks Before After object command =
    (objects : List Decl) (lines : List Line) → Before objects lines → After objects (lines ++ record { object = object; command = command } ∷ [])

-- something is kept, the object is a declared one, and there is room for a command more
pub record CanAsk (Keeps : List Decl → List Line → Type 0) (object : ℕ) : Type 0 where
  pub objects : List Decl
  pub lines : List Line
  pub keeps : Keeps objects lines
  pub within : object < length objects
  pub room : length lines < MOST_COMMANDS

-- what is kept is what these lines ask, and they are lawful
pub record Holds (Keeps : List Decl → List Line → Type 0) (r : Reader) (commands : ℕ) (lines : List Line) : Type 0 where
  pub count : length lines ≡ commands
  pub keeps : Keeps r.objects.items lines
  pub valid : IsLawful (reading_of r lines).said

-- what is kept is what the lines of this reading ask
pub record Stands (Keeps : List Decl → List Line → Type 0) (r : Reader) (commands : ℕ) (now : Reading) : Type 0 where
  pub lines : List Line
  pub holds : Holds Keeps r commands lines
  pub is : now ≡ reading_of r lines

-- a line more may be read
pub record IsReady (Keeps : List Decl → List Line → Type 0) (r : Reader) (commands : ℕ) : Type 0 where
  pub kept : IsValidReader r
  pub few : commands ≤ MOST_COMMANDS
  pub some : (now : Reading) × Stands Keeps r commands now

-- where something is held before the line, so it is after it, of lines of which the grammar says the same
abbrev pub HoldsLine : {X : Type 0} → (List Line → Type 0) → (List Line → Type 0) → (List Line → Reading) → Result X LineFail → (List Line → Result Reading BadKind) → Type 0
HoldsLine before after reading_of (Ok _) read = (lines : List Line) → before lines → (more : List Line) × after more × (read lines ≡ Ok (reading_of more))
HoldsLine before after reading_of (Err (line.Bad kind)) read = (lines : List Line) → before lines → read lines ≡ Err kind
HoldsLine before after reading_of (Err line.Memory) read = Unit {0}

-- what was read of a script is what it says, and is kept
pub record IsWhole (Keeps : List Decl → List Line → Type 0) (v : Version) (decls : List Decl) (n : ℕ) (s : ScriptMeaning) : Type 0 where
  pub version : s.version ≡ v
  pub objects : s.objects ≡ decls
  pub commands : length s.lines ≡ n
  pub keeps : Keeps s.objects s.lines
  pub valid : IsLawful s
