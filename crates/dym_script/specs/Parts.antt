-- A script by its objects.
use Rattle.std.specs.Prelude.{◌≡◌, ◌<◌, ◌==◌, ℕ, List, length, map, filter, All, slice_index_or}
use Rattle.dym_base.specs.declared.command.Command.{Command}
use Rattle.dym_script.specs.declared.parts.Part.{Part}
use Rattle.dym_script.specs.declared.parts.PartCollector.{PartCollector}
use Rattle.dym_script.specs.declared.script.Decl.{Decl}
use Rattle.dym_script.specs.declared.script.Line.{Line}

-- the commands of those of the lines that are one object's
abbrev pub commands_of : List Line → ℕ → List Command
commands_of lines k = map (λ line. line.command) (filter (λ line. line.object == k) lines)

-- each part has the commands of those of the lines that are its object's
abbrev pub EachHas : List Part → List Line → Type 0
EachHas parts lines = (k : ℕ) (d : Part) → k < length parts → (slice_index_or parts k d).commands ≡ commands_of lines k

-- the parts are those of these declarations and lines, which ask nothing of other objects
pub record ArePartsOf (parts : List Part) (objects : List Decl) (lines : List Line) : Type 0 where
  pub decls : map (λ part. part.decl) parts ≡ objects
  pub commands : EachHas parts lines
  pub within : All (λ line. line.object < length objects) lines

-- the collector has these parts
abbrev pub KeepsParts : PartCollector → List Decl → List Line → Type 0
KeepsParts collector = ArePartsOf collector.parts.items
