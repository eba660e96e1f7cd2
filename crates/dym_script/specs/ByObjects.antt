-- A script that was read into its objects.
use Rattle.std.specs.Prelude.{Result}
use Rattle.dym_script.specs.declared.parts.PartCollector.{PartCollector}
use Rattle.dym_script.specs.declared.pieces.WholeScript.{WholeScript}
use Rattle.dym_script.specs.declared.script.ScriptFail.{ScriptFail}
use Rattle.dym_script.specs.Scripts.{ScriptMeaning, Fault}
use Rattle.dym_script.specs.Answers.{GivesBy}
use Rattle.dym_script.specs.Keepers.{IsWhole}
use Rattle.dym_script.specs.Parts.{KeepsParts}

-- what was read is what a script says, by its objects
abbrev pub IsByObjects : WholeScript PartCollector → ScriptMeaning → Type 0
IsByObjects whole s = IsWhole (KeepsParts whole.kept) whole.version whole.objects.items whole.commands s

-- the answer of the reader of parts is what the grammar gives, unless memory ran out
abbrev pub GivesParts : Result (WholeScript PartCollector) ScriptFail → Result ScriptMeaning Fault → Type 0
GivesParts result read = GivesBy IsByObjects result read
