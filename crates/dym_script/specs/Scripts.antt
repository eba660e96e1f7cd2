-- The grammar of scripts. The input is cut into lines, and each line is classed by tests in a fixed order: it is good and
-- says one thing, or it has one kind of fault, that of the first test that fails.
use Rattle.std.specs.Prelude.{ℕ, ◌+◌, ◌-◌, ◌^◌, Bool, true, false, not, ◌&&◌, ◌||◌, ◌==◌, nat_lt, if◌then◌else◌, List, [], ◌∷◌, ◌++◌, length, codes, slice_index, Option, None, Some, is_some, map, filter, Result, Ok, Err}
use Rattle.std.specs.List.{list_all, position_from}
use Rattle.std.specs.Str.{bytes_eq}
use Rattle.dym_base.specs.Names.{is_name}
use Rattle.dym_base.specs.declared.limits.TheConstants.{MOST_INPUT_BYTES, MOST_LINE_BYTES, MOST_OBJECTS, MOST_COMMANDS, MOST_QUOTA}
use Rattle.dym_base.specs.declared.bad_kind.BadKind.{BadKind}
use Rattle.dym_base.specs.declared.bad_kind.BadKind.TheVariants as bad
use Rattle.dym_base.specs.declared.command.Version.{Version}
use Rattle.dym_base.specs.declared.command.Version.TheVariants.{One, Two}
use Rattle.dym_base.specs.declared.command.Command.{Command}
use Rattle.dym_script.specs.declared.script.Decl.{Decl}
use Rattle.dym_script.specs.declared.script.Line.{Line}
use Rattle.dym_script.specs.declared.script.Script.{Script}
use Rattle.dym_script.specs.declared.verb.Verb.{Verb}
use Rattle.dym_base.specs.Lines.{lines_of}
use Rattle.dym_script.specs.Lines.{words_of, is_printable}
use Rattle.dym_script.specs.Words.{number_to}
use Rattle.dym_script.specs.Table.{verb_of, command_of}

-- what a script says: its version, and the lists of its declarations and of its other lines
pub record ScriptMeaning : Type 0 where
  pub version : Version
  pub objects : List Decl
  pub lines : List Line

-- a script, seen so
abbrev pub said : Script → ScriptMeaning
said s = record { version = s.version; objects = s.objects.items; lines = s.lines.items }

-- what the lines so far say, and whether one of them wasn't skipped
pub record Reading : Type 0 where
  pub begun : Bool
  pub said : ScriptMeaning

-- nothing is read yet, and the version is 1 unless a line says otherwise
abbrev pub start : Reading
start = record { begun = false; said = record { version = One; objects = []; lines = [] } }

-- the place of the declaration that has this name
unfoldable pub object_of : List Decl → List ℕ → Option ℕ
object_of objects name = position_from (λ d. bytes_eq d.name name) 0 objects

-- the line declares an object: what is wrong with it, in order, or what is said with it
abbrev pub declare : ScriptMeaning → ℕ → List ℕ → Option ℕ → Result ScriptMeaning BadKind
declare s number name None = Err bad.Number
declare s number name (Some quota) =
    if not (is_name name) then Err bad.Name
    else if is_some (object_of s.objects name) then Err bad.Twice
    else if nat_lt quota 1 || nat_lt MOST_QUOTA quota then Err bad.QuotaRange
    else if length s.objects == MOST_OBJECTS then Err bad.Many
    else Ok (record s { objects = s.objects ++ record { name = name; quota = quota; line = number } ∷ [] })

-- the line asks something of the object in this place
abbrev pub ask_at : ScriptMeaning → Command → Option ℕ → Result ScriptMeaning BadKind
ask_at s command None = Err bad.Undeclared
ask_at s command (Some object) =
    if length s.lines == MOST_COMMANDS then Err bad.Many
    else Ok (record s { lines = s.lines ++ record { object = object; command = command } ∷ [] })

-- what is wrong with a command whose name isn't declared
abbrev pub name_fault : List ℕ → BadKind
name_fault name = if is_name name then bad.Undeclared else bad.Name

-- the line asks something of an object
abbrev pub ask : ScriptMeaning → List ℕ → Result Command BadKind → Result ScriptMeaning BadKind
ask s name (Err kind) = Err kind
ask s name (Ok command) = if not (is_name name) then Err bad.Name else ask_at s command (object_of s.objects name)

-- the words after the word `object`
abbrev pub declare_words : ScriptMeaning → ℕ → List (List ℕ) → Result ScriptMeaning BadKind
declare_words s number (name ∷ quota ∷ []) = declare s number name (number_to (2 ^ 64 - 1) quota)
declare_words s number words = Err bad.Command

-- the words after a verb, where the second word is one
abbrev pub ask_verb : ScriptMeaning → List ℕ → Option Verb → List (List ℕ) → Result ScriptMeaning BadKind
ask_verb s name None words = Err bad.Command
ask_verb s name (Some v) words = ask s name (command_of v words)

-- the words after a name
abbrev pub ask_words : ScriptMeaning → List ℕ → List (List ℕ) → Result ScriptMeaning BadKind
ask_words s name [] = Err bad.Command
ask_words s name (word ∷ words) = ask_verb s name (verb_of word) words

-- a line of these words, that isn't skipped and isn't the version line
abbrev pub say : ScriptMeaning → ℕ → List ℕ → List (List ℕ) → Result ScriptMeaning BadKind
say s number first words =
    if bytes_eq first (codes "object") then declare_words s number words else ask_words s first words

-- the two words of the version line
abbrev pub is_version : List ℕ → List (List ℕ) → Bool
is_version first (second ∷ []) = bytes_eq first (codes "version") && bytes_eq second (codes "2")
is_version first words = false

-- a line that isn't skipped was read
abbrev pub begin : Result ScriptMeaning BadKind → Result Reading BadKind
begin (Err kind) = Err kind
begin (Ok s) = Ok (record { begun = true; said = s })

-- a line of these words is skipped where it has none, and where the first begins with #
abbrev pub read_words : Reading → ℕ → List (List ℕ) → Result Reading BadKind
read_words r number [] = Ok r
read_words r number (first ∷ words) =
    if slice_index first 0 == 35 then Ok r
    else if not r.begun && is_version first words then Ok (record { begun = true; said = record r.said { version = Two } })
    else begin (say r.said number first words)

-- what is said with one line more
unfoldable pub read_line : Reading → ℕ → List ℕ → Result Reading BadKind
read_line r number line =
    if nat_lt MOST_LINE_BYTES (length line) then Err bad.LongLine
    else if not (list_all is_printable line) then Err bad.Bytes
    else read_words r number (words_of line)

-- the first bad line, and what is wrong with it
pub record Fault : Type 0 where
  pub line : ℕ
  pub kind : BadKind

-- the rest is read only after a good line
abbrev pub go_on : ℕ → Result Reading BadKind → (Reading → Result ScriptMeaning Fault) → Result ScriptMeaning Fault
go_on number (Err kind) rest = Err (record { line = number; kind = kind })
go_on number (Ok r) rest = rest r

-- what is said with these lines more, the first of which has this number
abbrev pub read_lines : Reading → ℕ → List (List ℕ) → Result ScriptMeaning Fault
read_lines r number [] = Ok r.said
read_lines r number (line ∷ lines) = go_on number (read_line r number line) (λ next. read_lines next (number + 1) lines)

-- what an input says, or its first fault
unfoldable pub script_of : List ℕ → Result ScriptMeaning Fault
script_of bytes =
    if nat_lt MOST_INPUT_BYTES (length bytes) then Err (record { line = 0; kind = bad.TooLong })
    else read_lines start 1 (lines_of bytes)

-- the commands of the lines of one object, in the script's order
unfoldable pub own : ScriptMeaning → ℕ → List Command
own s object = map (λ line. line.command) (filter (λ line. line.object == object) s.lines)
