-- The objects of a script with their own commands, and what these give.
use Rattle.std.specs.Prelude.{ℕ, ◌+◌, ◌≤◌, List, [], ◌∷◌, length}
use Rattle.dym_base.specs.Objects.{ObjectState, run_replies, run_end}
use Rattle.dym_base.specs.declared.command.Version.{Version}
use Rattle.dym_base.specs.declared.command.Command.{Command}
use Rattle.dym_base.specs.declared.reply.Reply.{Reply}
use Rattle.dym_base.specs.declared.limits.TheConstants.{MOST_QUOTA, MOST_COMMANDS}
use Rattle.dym_script.specs.declared.script.Decl.{Decl}
use Rattle.dym_script.specs.declared.parts.Part.{Part}
use Rattle.dym_script.specs.Scripts.{ScriptMeaning, own}

-- a declared object and its own commands
pub record Own : Type 0 where
  pub decl : Decl
  pub commands : List Command

-- a part of a script that was read into its objects is one
abbrev pub own_of : Part → Own
own_of part = record { decl = part.decl; commands = part.commands }

-- the part has no more commands than a script has, and the quota is one
pub record IsRunnable (part : Part) : Type 0 where
  pub few : length part.commands ≤ MOST_COMMANDS
  pub quota_least : 1 ≤ part.decl.quota
  pub quota_most : part.decl.quota ≤ MOST_QUOTA

-- the objects of a script from the k-th on, which these declarations declare
abbrev pub own_from : ScriptMeaning → ℕ → List Decl → List Own
own_from said k [] = []
own_from said k (d ∷ ds) = record { decl = d; commands = own said k } ∷ own_from said (k + 1) ds

-- the objects of a script in the order of their declarations
unfoldable pub objects_of : ScriptMeaning → List Own
objects_of said = own_from said 0 said.objects

-- what an object's own commands give, from an empty heap within its quota
abbrev pub replies_of : Version → Own → List Reply
replies_of version o = run_replies version o.decl.quota o.commands

abbrev pub end_of : Version → Own → ObjectState
end_of version o = run_end version o.decl.quota o.commands
