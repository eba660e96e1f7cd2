-- The text of a made script.
use Rattle.std.specs.Prelude.{ℕ, zero, suc, ◌+◌, ◌*◌, ◌/◌, ◌%◌, ◌^◌, List, [], ◌++◌, codes, decimal, flat_map}
use Rattle.std.specs.List.{range_with_len}
use Rattle.dym_gen.specs.Commands.{fixed_command, command_text, command_state}

-- the declaration of object K
abbrev pub object_line : ℕ → List ℕ
object_line object = codes "object o" ++ decimal object ++ codes " " ++ decimal (1 + 3 * (object % 4)) ++ codes "\n"

-- line k of the commands: command k / objects of object k mod objects
abbrev pub command_line : ℕ → ℕ → ℕ → List ℕ
command_line objects k x =
    codes "o" ++ decimal (k % objects) ++ codes " " ++ command_text (fixed_command (k % objects) (k / objects)) x ++ codes "\n"

-- the state after that line
abbrev pub line_state : ℕ → ℕ → ℕ → ℕ
line_state objects k x = command_state (fixed_command (k % objects) (k / objects)) x

-- n lines of commands, from line k on
abbrev pub command_lines : ℕ → ℕ → ℕ → ℕ → List ℕ
command_lines objects zero k x = []
command_lines objects (suc n) k x = command_line objects k x ++ command_lines objects n (k + 1) (line_state objects k x)

-- the declarations
abbrev pub object_lines : ℕ → List ℕ
object_lines objects = flat_map object_line (range_with_len 0 objects)

-- the whole script
unfoldable pub generated : ℕ → ℕ → ℕ → List ℕ
generated seed objects commands = object_lines objects ++ command_lines objects commands 0 (seed % 2 ^ 31)
