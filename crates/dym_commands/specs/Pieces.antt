-- Commands that stand in pieces, one behind the other.
use Rattle.std.specs.Prelude.{◌≡◌, ◌+◌, ◌-◌, ◌≤◌, ◌<◌, ℕ, List, [], ◌∷◌, ◌++◌, length, flat_map, sum_by, slice_get}
use Rattle.dym_base.specs.declared.limits.TheConstants.{MOST_COMMANDS}
use Rattle.dym_base.specs.declared.command.Command.{Command}
use Rattle.dym_commands.specs.Reads.{read_room}
use Rattle.dym_commands.specs.declared.commands.FollowingBlock.{FollowingBlock}

-- the commands of these pieces
abbrev pub commands_in : List FollowingBlock → List Command
commands_in pieces = flat_map (λ later. later.piece) pieces

-- the commands of a first piece and of the others
abbrev pub all_of : List Command → List FollowingBlock → List Command
all_of first others = first ++ commands_in others

-- so many commands stand before the first of these pieces, and before each of them as many as it tells
abbrev pub Follow : ℕ → List FollowingBlock → Type 0
Follow n [] = Unit {0}
Follow n (later ∷ others) = (later.start ≡ n) × Follow (n + length later.piece) others

-- the piece behind so many commands more
abbrev pub behind : ℕ → FollowingBlock → FollowingBlock
behind n later = record later { start = n + later.start }

-- the command in this place, where so many stand before the pieces, stands in this one
pub record IsAt (n : ℕ) (pieces : List FollowingBlock) (k : ℕ) (later : FollowingBlock) : Type 0 where
  pub reached : later.start ≤ k
  pub within : k - later.start < length later.piece
  pub same : slice_get later.piece (k - later.start) ≡ slice_get (commands_in pieces) (k - n)

-- they are no more than a script has, each piece tells what stands before it, and so many bytes are the most that their
-- replies tell
pub record AreWhole (first : List Command) (others : List FollowingBlock) (len read_bytes : ℕ) : Type 0 where
  pub few : len ≤ MOST_COMMANDS
  pub count : len ≡ length (all_of first others)
  pub follow : Follow (length first) others
  pub reads : read_bytes ≡ sum_by read_room (all_of first others)
