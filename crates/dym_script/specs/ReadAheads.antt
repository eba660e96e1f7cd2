-- Lines that are read ahead of those before them.
use Rattle.std.specs.Prelude.{◌≡◌, ◌+◌, ◌<◌, ◌≤◌, ℕ, true, List, [], ◌∷◌, ◌++◌, All, length, map, slice_index_or, Result, Ok, Err}
use denote.Ref.{Bor}
use Rattle.dym_base.specs.declared.limits.TheConstants.{MOST_COMMANDS}
use Rattle.dym_base.specs.declared.command.Command.{Command}
use Rattle.dym_base.specs.Lines.{lines_of}
use Rattle.dym_script.specs.declared.read_ahead.ReadAhead.{ReadAhead}
use Rattle.dym_script.specs.declared.parts.Part.{Part}
use Rattle.dym_script.specs.declared.script.Decl.{Decl}
use Rattle.dym_script.specs.declared.script.Line.{Line}
use Rattle.dym_script.specs.Scripts.{Reading, read_lines}
use Rattle.dym_script.specs.declared.script.ScriptFail.{ScriptFail}
use Rattle.dym_script.specs.Parts.{commands_of}
use Rattle.dym_script.specs.Pieces.{ReadsFront}

-- what was read with these lines more, which ask something
abbrev pub asked_on : Reading → List Line → Reading
asked_on now [] = now
asked_on now (line ∷ lines) = record { begun = true; said = record now.said { lines = now.said.lines ++ line ∷ lines } }

-- whatever was read before, and whatever is declared behind these objects: the first lines of the text ask this of them, where
-- there is room for so many commands more, and its other lines are those of the rest
pub record AskAhead (objects : List Decl) (text : List ℕ) (asked : List Line) (rest : List ℕ) : Type 0 where
  pub within : All (λ line. line.object < length objects) asked
  pub shorter : length asked + length rest ≤ length text
  pub reads : (now : Reading) (more : List Decl) (number : ℕ) (others : List (List ℕ)) → now.said.objects ≡ objects ++ more → length now.said.lines + length asked ≤ MOST_COMMANDS
      → read_lines now number (lines_of text ++ others) ≡ read_lines (asked_on now asked) (number + length asked) (lines_of rest ++ others)

-- each list has the commands of those of the lines that are its object's
abbrev pub EachOwn : List (List Command) → List Line → Type 0
EachOwn own lines = (k : ℕ) (d : List Command) → k < length own → slice_index_or own k d ≡ commands_of lines k

-- the first lines of the text were read ahead, where these objects were declared
pub record IsAhead (objects : List Decl) (text : List ℕ) (ahead : ReadAhead) : Type 0 where
  pub asked : List Line
  pub ask : AskAhead objects text asked ahead.rest.now
  pub count : length asked ≡ ahead.lines
  pub lists : length ahead.own.items ≡ length objects
  pub own : EachOwn ahead.own.items asked

-- behind the commands of each of the first parts stand those of its object, and all else is the same
pub record HasOwn (own : List (List Command)) (old new : List Part) : Type 0 where
  pub decls : map (λ part. part.decl) new ≡ map (λ part. part.decl) old
  pub commands : (k : ℕ) (d : Part) → k < length old → (slice_index_or new k d).commands ≡ (slice_index_or old k d).commands ++ slice_index_or own k []

-- the lines at the front of a text are read, and at Ok the others are those of the rest
abbrev pub ReadsRest : (Reading → Type 0) → (Reading → Type 0) → ℕ → ℕ → List ℕ → Result (Bor (List ℕ)) ScriptFail → Type 0
ReadsRest Before After n m text (Ok rest) = ReadsFront Before After n m (lines_of text) (lines_of rest.now) (Ok tt)
ReadsRest Before After n m text (Err failed) = ReadsFront Before After n m (lines_of text) [] (Err failed)
