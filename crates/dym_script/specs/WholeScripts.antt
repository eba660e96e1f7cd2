-- What was read of a script that comes piece by piece, and of the whole script.
use Rattle.std.specs.Prelude.{ℕ, List, Result}
use Rattle.dym_script.specs.declared.pieces.Pieces.{Pieces}
use Rattle.dym_script.specs.declared.pieces.WholeScript.{WholeScript}
use Rattle.dym_script.specs.declared.script.Decl.{Decl}
use Rattle.dym_script.specs.declared.script.Line.{Line}
use Rattle.dym_script.specs.declared.script.ScriptFail.{ScriptFail}
use Rattle.dym_script.specs.Scripts.{ScriptMeaning, Fault, Reading}
use Rattle.dym_script.specs.Answers.{GivesBy}
use Rattle.dym_script.specs.Keepers.{IsReady, Stands, IsWhole}
use Rattle.dym_script.specs.Pieces.{Took}

-- a line more may be read
abbrev pub MayRead : {K : Type 0} → (K → List Decl → List Line → Type 0) → Pieces K → Type 0
MayRead Keeps p = IsReady (Keeps p.keeper) p.reader p.commands

-- what was read is this, and is kept
abbrev pub StandsAt : {K : Type 0} → (K → List Decl → List Line → Type 0) → Pieces K → Reading → Type 0
StandsAt Keeps p now = Stands (Keeps p.keeper) p.reader p.commands now

-- the lines that were read are all of this text, and are ended
abbrev pub TookBy : {K : Type 0} → (K → List Decl → List Line → Type 0) → Pieces K → List ℕ → Type 0
TookBy Keeps p taken = Took (MayRead Keeps p) (StandsAt Keeps p) p.number taken

-- the answer of a reader with a keeper is what the grammar gives, and kept of just this, unless memory ran out
abbrev pub GivesWhole : {K : Type 0} → (K → List Decl → List Line → Type 0) → Result (WholeScript K) ScriptFail → (Result ScriptMeaning Fault → Type 0)
GivesWhole Keeps result = GivesBy (λ whole. IsWhole (Keeps whole.kept) whole.version whole.objects.items whole.commands) result
