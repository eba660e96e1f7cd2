-- The grammar of scripts of late events. Words, numbers, names, declarations and commands are those of scripts; a line that is
-- no declaration has a time besides, and there is no version line.
use Rattle.std.specs.Prelude.{ℕ, ◌+◌, ◌-◌, ◌^◌, Bool, true, false, not, ◌&&◌, ◌==◌, nat_lt, if◌then◌else◌, List, [], ◌∷◌, ◌++◌, length, codes, slice_index, count_by, Option, None, Some, Result, Ok, Err}
use Rattle.std.specs.List.{list_all}
use Rattle.std.specs.Str.{bytes_eq}
use Rattle.dym_base.specs.Names.{is_name}
use Rattle.dym_base.specs.declared.limits.TheConstants.{MOST_INPUT_BYTES, MOST_LINE_BYTES}
use Rattle.dym_base.specs.declared.bad_kind.BadKind.{BadKind}
use Rattle.dym_base.specs.declared.bad_kind.BadKind.TheVariants as bad
use Rattle.dym_base.specs.declared.command.Version.TheVariants.{One}
use Rattle.dym_base.specs.declared.command.Command.{Command}
use Rattle.dym_base.specs.declared.limits.TheConstants.{MOST_LATE_LINES, MOST_LATE_EVENTS}
use Rattle.dym_script.specs.declared.late_script.LateAct.{LateAct}
use Rattle.dym_script.specs.declared.late_script.LateAct.TheVariants.{At, Commit}
use Rattle.dym_script.specs.declared.late_script.LateLine.{LateLine}
use Rattle.dym_script.specs.declared.late_script.LateScript.{LateScript}
use Rattle.dym_script.specs.declared.script.Decl.{Decl}
use Rattle.dym_script.specs.declared.verb.Verb.{Verb}
use Rattle.dym_script.specs.declared.verb.Verb.TheVariants as verb
use Rattle.dym_base.specs.Lines.{lines_of}
use Rattle.dym_script.specs.Lines.{words_of, is_printable}
use Rattle.dym_script.specs.Words.{number_to}
use Rattle.dym_script.specs.Table.{verb_of, command_of}
use Rattle.dym_script.specs.Scripts.{ScriptMeaning, Fault, object_of, declare_words}

-- what a script of late events says: the lists of its declarations and of its other lines
pub record LateScriptMeaning : Type 0 where
  pub objects : List Decl
  pub lines : List LateLine

-- a script, seen so
abbrev pub late_said : LateScript → LateScriptMeaning
late_said s = record { objects = s.objects.items; lines = s.lines.items }

-- nothing is read yet
abbrev pub late_start : LateScriptMeaning
late_start = record { objects = []; lines = [] }

-- the verbs that an event may have
abbrev pub is_event_verb : Verb → Bool
is_event_verb verb.Malloc = true
is_event_verb verb.Calloc = true
is_event_verb verb.Realloc = true
is_event_verb verb.Free = true
is_event_verb verb.Write = true
is_event_verb verb.Fill = true
is_event_verb verb.Link = true
is_event_verb verb.Follow = true
is_event_verb verb.Sum = true
is_event_verb v = false

-- the line has an event
abbrev pub is_event : LateAct → Bool
is_event (At time command) = true
is_event (Commit time) = false

-- how many lines of one object have an event
abbrev pub events_of : List LateLine → ℕ → ℕ
events_of lines object = count_by (λ line. line.object == object && is_event line.act) lines

-- a time is a number of 64 bits
abbrev pub time_of : List ℕ → Option ℕ
time_of word = number_to (2 ^ 64 - 1) word

-- what is wrong first with an event whose command has this fault: a wrong number of words comes before the time, and the time
-- before all else
abbrev pub event_fault : Option ℕ → BadKind → BadKind
event_fault time bad.Command = bad.Command
event_fault None kind = bad.Number
event_fault (Some time) kind = kind

-- an event of this time and this command
abbrev pub event_at : Option ℕ → Result Command BadKind → Result LateAct BadKind
event_at time (Err kind) = Err (event_fault time kind)
event_at None (Ok command) = Err bad.Number
event_at (Some time) (Ok command) = Ok (At time command)

-- the words after the verb of an event, where there is one
abbrev pub event_words : List ℕ → Option Verb → List (List ℕ) → Result LateAct BadKind
event_words time None words = Err bad.Command
event_words time (Some v) words = if is_event_verb v then event_at (time_of time) (command_of v words) else Err bad.Command

-- a commit to this time
abbrev pub commit_at : Option ℕ → Result LateAct BadKind
commit_at None = Err bad.Number
commit_at (Some time) = Ok (Commit time)

-- the words after an object's name, where it has an event: `at`, a time, a verb and what follows it
abbrev pub at_words : List (List ℕ) → Result LateAct BadKind
at_words (time ∷ word ∷ words) = event_words time (verb_of word) words
at_words words = Err bad.Command

-- where it is committed: `commit` and a time
abbrev pub commit_words : List (List ℕ) → Result LateAct BadKind
commit_words (time ∷ []) = commit_at (time_of time)
commit_words words = Err bad.Command

-- what the words after an object's name say of it
unfoldable pub act_of : List (List ℕ) → Result LateAct BadKind
act_of [] = Err bad.Command
act_of (word ∷ words) =
    if bytes_eq word (codes "at") then at_words words
    else if bytes_eq word (codes "commit") then commit_words words
    else Err bad.Command

-- the line says this of the object in this place
abbrev pub act_on : LateScriptMeaning → LateAct → Option ℕ → Result LateScriptMeaning BadKind
act_on s act None = Err bad.Undeclared
act_on s act (Some object) =
    if length s.lines == MOST_LATE_LINES then Err bad.Many
    else if is_event act && events_of s.lines object == MOST_LATE_EVENTS then Err bad.Many
    else Ok (record s { lines = s.lines ++ record { object = object; act = act } ∷ [] })

-- the line says something of an object
abbrev pub act_of_name : LateScriptMeaning → List ℕ → Result LateAct BadKind → Result LateScriptMeaning BadKind
act_of_name s name (Err kind) = Err kind
act_of_name s name (Ok act) = if not (is_name name) then Err bad.Name else act_on s act (object_of s.objects name)

-- a script of these declarations alone
abbrev pub declaring : List Decl → ScriptMeaning
declaring objects = record { version = One; objects = objects; lines = [] }

-- the line declares an object, as in a script
abbrev pub late_declared : LateScriptMeaning → Result ScriptMeaning BadKind → Result LateScriptMeaning BadKind
late_declared s (Err kind) = Err kind
late_declared s (Ok t) = Ok (record s { objects = t.objects })

-- a line of these words is skipped where it has none, and where the first begins with #
abbrev pub late_words : LateScriptMeaning → ℕ → List (List ℕ) → Result LateScriptMeaning BadKind
late_words s number [] = Ok s
late_words s number (first ∷ words) =
    if slice_index first 0 == 35 then Ok s
    else if bytes_eq first (codes "object") then late_declared s (declare_words (declaring s.objects) number words)
    else act_of_name s first (act_of words)

-- what is said with one line more
unfoldable pub late_line : LateScriptMeaning → ℕ → List ℕ → Result LateScriptMeaning BadKind
late_line s number line =
    if nat_lt MOST_LINE_BYTES (length line) then Err bad.LongLine
    else if not (list_all is_printable line) then Err bad.Bytes
    else late_words s number (words_of line)

-- the rest is read only after a good line
abbrev pub late_on : ℕ → Result LateScriptMeaning BadKind → (LateScriptMeaning → Result LateScriptMeaning Fault) → Result LateScriptMeaning Fault
late_on number (Err kind) rest = Err (record { line = number; kind = kind })
late_on number (Ok s) rest = rest s

-- what is said with these lines more, the first of which has this number
abbrev pub late_lines : LateScriptMeaning → ℕ → List (List ℕ) → Result LateScriptMeaning Fault
late_lines s number [] = Ok s
late_lines s number (line ∷ lines) = late_on number (late_line s number line) (λ next. late_lines next (number + 1) lines)

-- what an input says, or its first fault
unfoldable pub late_of : List ℕ → Result LateScriptMeaning Fault
late_of bytes =
    if nat_lt MOST_INPUT_BYTES (length bytes) then Err (record { line = 0; kind = bad.TooLong })
    else late_lines late_start 1 (lines_of bytes)
