-- Commands that are kept in little memory, and what they mean.
use Rattle.std.specs.Prelude.{◌≡◌, ◌+◌, ◌≤◌, ◌<◌, ℕ, List, length, take, drop, map, All, slice_index_or}
use Rattle.dym_base.specs.declared.limits.TheConstants.{MOST_COMMANDS}
use Rattle.dym_base.specs.declared.command.Command.{Command}
use Rattle.dym_base.specs.declared.command.Command.TheVariants as command
use Rattle.dym_commands.specs.Handles.{handle_of, handle_or_nil_of}
use Rattle.dym_commands.specs.declared.stored_command.Wide.{Wide}
use Rattle.dym_commands.specs.declared.stored_command.StoredCommand.{StoredCommand}
use Rattle.dym_commands.specs.declared.stored_command.StoredCommand.TheVariants as stored
use Rattle.dym_commands.specs.declared.stored_command.Tables.{Tables}

-- a row of the wide numbers, where there is one
abbrev pub row_of : Tables → ℕ → Wide
row_of tables row = slice_index_or tables.wide.items row (record { first = 0; second = 0 })

-- so many bytes from a place on
abbrev pub bytes_at : Tables → ℕ → ℕ → List ℕ
bytes_at tables place len = take len (drop place tables.bytes.items)

-- the command that is kept
abbrev pub command_of : Tables → StoredCommand → Command
command_of tables (stored.Malloc len) = command.Malloc len
command_of tables (stored.Calloc n len) = command.Calloc n len
command_of tables (stored.WideCalloc row) = command.Calloc (row_of tables row).first (row_of tables row).second
command_of tables (stored.Realloc h len) = command.Realloc (handle_or_nil_of h) len
command_of tables (stored.Free h) = command.Free (handle_or_nil_of h)
command_of tables (stored.Write h len at place) = command.Write (handle_of h) at (bytes_at tables place len)
command_of tables (stored.WideWrite h at row) = command.Write (handle_of h) at (bytes_at tables (row_of tables row).first (row_of tables row).second)
command_of tables (stored.Fill h byte at len) = command.Fill (handle_of h) at len byte
command_of tables (stored.Read h at len) = command.Read (handle_of h) at len
command_of tables (stored.Link h to at) = command.Link (handle_of h) at (handle_or_nil_of to)
command_of tables (stored.Follow h at) = command.Follow (handle_of h) at
command_of tables (stored.Sum h) = command.Sum (handle_of h)
command_of tables (stored.Log time) = command.Log time
command_of tables (stored.Ilog time) = command.Ilog time
command_of tables (stored.Restore time) = command.Restore time
command_of tables (stored.Prune bound) = command.Prune bound
command_of tables stored.Logs = command.Logs

-- what a kept command needs stands in the tables
abbrev pub IsFit : Tables → StoredCommand → Type 0
IsFit tables (stored.WideCalloc row) = row < length tables.wide.items
IsFit tables (stored.Write h len at place) = place + len ≤ length tables.bytes.items
IsFit tables (stored.WideWrite h at row) = (row < length tables.wide.items) × ((row_of tables row).first + (row_of tables row).second ≤ length tables.bytes.items)
IsFit tables _ = Unit {0}

-- what is kept with the first tables is the same with the second
abbrev pub Still : Tables → Tables → Type 0
Still tables more = (k : StoredCommand) → IsFit tables k → IsFit more k × (command_of more k ≡ command_of tables k)

-- with the second tables this command is kept, and they have at most one row more than the first
pub record IsStored (tables more : Tables) (command : Command) (stored : StoredCommand) : Type 0 where
  pub rows : length more.wide.items ≤ length tables.wide.items + 1
  pub fit : IsFit more stored
  pub is : command_of more stored ≡ command

-- the commands that are kept
abbrev pub commands_of : Tables → List StoredCommand → List Command
commands_of tables stored_list = map (command_of tables) stored_list

-- they are no more than a script has, with no more rows, and the tables have what they need
pub record AreFit (tables : Tables) (stored_list : List StoredCommand) : Type 0 where
  pub few : length stored_list ≤ MOST_COMMANDS
  pub rows : length tables.wide.items ≤ length stored_list
  pub fit : All (IsFit tables) stored_list
