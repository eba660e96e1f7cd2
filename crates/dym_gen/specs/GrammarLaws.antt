-- What the grammar gives for a made script.
use Rattle.std.specs.Prelude.{◌≡◌, ℕ, ◌<◌, ◌≤◌, List, length, Ok}
use Rattle.dym_base.specs.declared.limits.TheConstants.{MOST_OBJECTS, MOST_MADE_COMMANDS}
use Rattle.dym_script.specs.Scripts.{ScriptMeaning, script_of}
use Rattle.dym_gen.specs.Scripts.{generated}

-- the text is a good script, with so many objects and commands
pub record IsScriptWith (text : List ℕ) (object_count command_count : ℕ) : Type 0 where
  pub said : ScriptMeaning
  pub good : script_of text ≡ Ok said
  pub objects : length said.objects ≡ object_count
  pub commands : length said.lines ≡ command_count

-- each made script is good, and has as many objects and commands as were asked for
abbrev pub MadeScriptsAreGood : Type 0
MadeScriptsAreGood =
    (seed objects commands : ℕ) → 0 < objects → objects ≤ MOST_OBJECTS → commands ≤ MOST_MADE_COMMANDS
    → IsScriptWith (generated seed objects commands) objects commands
