-- How many bytes the replies to commands have.
use Rattle.std.specs.Prelude.{ℕ, nat_le, if◌then◌else◌}
use Rattle.dym_base.specs.declared.limits.TheConstants.{SEGMENT_BYTES}
use Rattle.dym_base.specs.declared.command.Command.{Command}
use Rattle.dym_base.specs.declared.command.Command.TheVariants.{Read}

-- the most bytes that the reply to a command tells: as many as a read asks for, and none where those are more than any chunk has
abbrev pub read_room : Command → ℕ
read_room (Read h at n) = if nat_le n SEGMENT_BYTES then n else 0
read_room _ = 0
