-- What the reader of lines keeps between two lines, and what it hands on of one.
use Rattle.std.specs.Prelude.{◌≡◌, ◌<◌, ◌⊎◌, ℕ, Bool, true, List, [], ◌∷◌, ◌++◌, length, slice_index_or, Option, None, Some, Result, Ok, Err, IsTrue}
use Rattle.std.specs.Str.{bytes_eq}
use Rattle.std.specs.HashMap.{get_by}
use Rattle.dym_base.specs.Names.{is_name}
use Rattle.dym_base.specs.declared.bad_kind.BadKind.{BadKind}
use Rattle.dym_script.specs.declared.line_fail.LineFail.{LineFail}
use Rattle.dym_script.specs.declared.line_fail.LineFail.TheVariants as line
use Rattle.dym_script.specs.declared.script.Decl.{Decl}
use Rattle.dym_script.specs.declared.script.Line.{Line}
use Rattle.dym_script.specs.declared.reader.Ask.{Ask}
use Rattle.dym_script.specs.declared.reader.Next.{Next}
use Rattle.dym_script.specs.declared.reader.Reader.{Reader}
use Rattle.dym_base.specs.Lines.{lines_of}
use Rattle.dym_script.specs.Scripts.{ScriptMeaning, Reading, object_of, ask_at, name_fault, read_line}
use Rattle.dym_commands.specs.Requests.{asks}
use Rattle.dym_script.specs.Answers.{IsLawful}

-- what was read so far, where these are the lines that ask something
abbrev pub reading_of : Reader → List Line → Reading
reading_of r lines = record { begun = r.begun; said = record { version = r.version; objects = r.objects.items; lines = lines } }

-- the index finds each declared name and no other, each declaration is the first of its name, and what was read is lawful
pub record IsValidReader (r : Reader) : Type 0 where
  pub indexed : (name : List ℕ) → get_by (λ key. bytes_eq name key.items) r.names ≡ object_of r.objects.items name
  pub first : (k : ℕ) (d : Decl) → k < length r.objects.items → object_of r.objects.items (slice_index_or r.objects.items k d).name ≡ Some k
  pub valid : IsLawful (reading_of r []).said

-- the declarations are the same, or one more
abbrev pub Grows : List Decl → List Decl → Type 0
Grows old new = (new ≡ old) ⊎ ((decl : Decl) × (new ≡ old ++ decl ∷ []))

-- the second declarations go on where the first end
abbrev pub GoesOn : List Decl → List Decl → Type 0
GoesOn old new = (more : List Decl) × (new ≡ old ++ more)

-- what is asked is asked of a declared object
abbrev pub IsWithin : Reader → Option Ask → Type 0
IsWithin r None = Unit {0}
IsWithin r (Some ask) = ask.object < length r.objects.items

-- what is said with what a line asks
abbrev pub with_ask : ScriptMeaning → Option Ask → Result ScriptMeaning BadKind
with_ask s None = Ok s
with_ask s (Some ask) = ask_at s (asks ask.asked) (Some ask.object)

-- what is read then
abbrev pub reading : Bool → Result ScriptMeaning BadKind → Result Reading BadKind
reading begun (Err kind) = Err kind
reading begun (Ok s) = Ok (record { begun = begun; said = s })

-- whatever was asked before, the grammar says the same of the line, unless memory ran out
abbrev pub GivesSaid : (List Line → ScriptMeaning) → Result (Option Ask) LineFail → (List Line → Result ScriptMeaning BadKind) → Type 0
GivesSaid after (Ok ask) read = (lines : List Line) → read lines ≡ with_ask (after lines) ask
GivesSaid after (Err (line.Bad kind)) read = (lines : List Line) → read lines ≡ Err kind
GivesSaid after (Err line.Memory) read = Unit {0}

-- the same of all that is read
abbrev pub GivesReading : (List Line → Reading) → Result (Option Ask) LineFail → (List Line → Result Reading BadKind) → Type 0
GivesReading after (Ok ask) read = (lines : List Line) → read lines ≡ reading (after lines).begun (with_ask (after lines).said ask)
GivesReading after (Err (line.Bad kind)) read = (lines : List Line) → read lines ≡ Err kind
GivesReading after (Err line.Memory) read = Unit {0}

-- the same of a declaration, which asks nothing
abbrev pub Declares : (List Line → ScriptMeaning) → Result Unit LineFail → (List Line → Result ScriptMeaning BadKind) → Type 0
Declares after (Ok _) read = (lines : List Line) → read lines ≡ Ok (after lines)
Declares after (Err (line.Bad kind)) read = (lines : List Line) → read lines ≡ Err kind
Declares after (Err line.Memory) read = Unit {0}

-- the object of this name, or what is wrong with it
abbrev pub Finds : Result ℕ LineFail → List Decl → List ℕ → Type 0
Finds (Ok object) objects name = (object_of objects name ≡ Some object) × IsTrue (is_name name)
Finds (Err (line.Bad kind)) objects name = (object_of objects name ≡ None) × (kind ≡ name_fault name)
Finds (Err line.Memory) objects name = Unit {0}

-- whatever was read before, and whatever is declared behind these objects, the line asks this of one of them
abbrev pub AsksOf : List Decl → List ℕ → Ask → Type 0
AsksOf objects line ask =
    (now : Reading) (more : List Decl) (number : ℕ) → now.said.objects ≡ objects ++ more → read_line now number line ≡ reading true (with_ask now.said (Some ask))

-- the first line of the text asks this of a declared object, and the other lines are those of the rest
pub record IsNext (r : Reader) (text : List ℕ) (ask : Ask) (rest : List ℕ) : Type 0 where
  pub within : IsWithin r (Some ask)
  pub shorter : length rest < length text
  pub first : (line : List ℕ) × (lines_of text ≡ line ∷ lines_of rest) × AsksOf r.objects.items line ask

-- the text has a first line, and whatever was asked before, the grammar says the same of it, unless memory ran out. At Ok the
-- other lines are those of the rest
abbrev pub GivesNext : (List Line → Reading) → (List Line → Reading) → ℕ → List ℕ → Result Next LineFail → Type 0
GivesNext before after number text (Ok next) = (line : List ℕ) × (lines_of text ≡ line ∷ lines_of next.rest.now) × ((lines : List Line) → read_line (before lines) number line ≡ reading (after lines).begun (with_ask (after lines).said next.ask))
GivesNext before after number text (Err (line.Bad kind)) = (line : List ℕ) × (others : List (List ℕ)) × (lines_of text ≡ line ∷ others) × ((lines : List Line) → read_line (before lines) number line ≡ Err kind)
GivesNext before after number text (Err line.Memory) = Unit {0}
