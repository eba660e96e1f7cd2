-- The checkpoint file of an object of a script, and what such a file holds.
use Rattle.std.specs.Prelude.{ℕ, List, [], ◌∷◌, ◌++◌, length, Option, None, Some}
use Rattle.std.specs.List.{find}
use Rattle.std.specs.Str.{bytes_eq}
use Rattle.dym_base.specs.Files.{FileHead, IsFile, run_file}
use Rattle.dym_base.specs.Objects.{LogEntry, ObjectState, newest, replies_from, object_after, slots}
use Rattle.dym_base.specs.declared.command.Version.{Version}
use Rattle.dym_base.specs.declared.command.Command.{Command}
use Rattle.dym_base.specs.declared.command.Command.TheVariants.{Restore}
use Rattle.dym_chain.specs.AdoptedLogs.{AreEntriesOf}
use Rattle.dym_ckpt.specs.FileReads.{heap_at}
use Rattle.dym_report.specs.Objects.{object_text}
use Rattle.dym_report.specs.Orders.{end_text}
use Rattle.dym_script.specs.Scripts.{ScriptMeaning}
use Rattle.dym_script.specs.OwnCommands.{Own, objects_of}

-- the declared object of a name, with its own commands
abbrev pub own_named : List ℕ → ScriptMeaning → Option Own
own_named name said = find (λ o. bytes_eq o.decl.name name) (objects_of said)

-- the file of what an object's own commands leave
abbrev pub own_file : Version → Own → List ℕ
own_file version o = run_file o.decl.name o.decl.quota version o.commands

-- the bytes are a file with this header, and these are the kept logs that its records say
pub record HoldsLogs (bytes : List ℕ) (head : FileHead) (logs : List LogEntry) : Type 0 where
  pub records : List (List ℕ)
  pub base_logs : List LogEntry
  pub file : IsFile bytes head records
  pub entries : AreEntriesOf head.depth records base_logs logs

-- the restore to a time, where one is named
abbrev pub restoring : Option ℕ → List Command
restoring None = []
restoring (Some time) = Restore time ∷ []

-- the part of an object that is restored so: its name, the reply to the restore, and its heap and logs after it
unfoldable pub restored_text : Version → ℕ → List ℕ → ObjectState → Option ℕ → List ℕ
restored_text version quota name s time =
    let commands = restoring time in
    let e = object_after version quota s commands in
    object_text version name (replies_from version quota s commands) e.heap.live (length e.logs) (slots e.logs)

-- a loaded object: its heap is as the newest of its logs has it
abbrev pub loaded_object : List LogEntry → ObjectState
loaded_object logs = record { heap = heap_at (newest logs); logs = logs }

-- what is written of a file with this header and these kept logs
abbrev pub loaded_text : Option ℕ → FileHead → List LogEntry → List ℕ
loaded_text time head logs = restored_text head.version head.quota head.name (loaded_object logs) time ++ end_text
