-- How long a made script is.
use Rattle.std.specs.Prelude.{ℕ, ◌<◌, ◌≤◌, length}
use Rattle.dym_base.specs.declared.limits.TheConstants.{MOST_OBJECTS, MOST_MADE_COMMANDS}
use Rattle.dym_gen.specs.Scripts.{object_line, command_line, generated}

-- each line has at most 32 bytes with its end
abbrev pub LinesAreShort : Type 0
LinesAreShort =
    ((object : ℕ) → object < MOST_OBJECTS → length (object_line object) ≤ 32)
    × ((objects k x : ℕ) → 0 < objects → objects ≤ MOST_OBJECTS → k < MOST_MADE_COMMANDS → length (command_line objects k x) ≤ 32)

-- the whole text is shorter than 6,600,000 bytes
abbrev pub ScriptsAreShort : Type 0
ScriptsAreShort = (seed objects commands : ℕ) → 0 < objects → objects ≤ MOST_OBJECTS → commands ≤ MOST_MADE_COMMANDS → length (generated seed objects commands) < 6600000
