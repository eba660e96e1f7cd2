use Rattle.std.proofs.Common.{◌≡◌, ◌+◌, ◌++◌, map, length, vec_len, vec_capacity}
use Rattle.dym_commands.specs.Pieces.{behind}
use Rattle.dym_commands.proofs.commands.append_behind.Given as goal

abbrev pub invariant-loop-later : goal.invariant-loop-later
invariant-loop-later l = (l.list.items ≡ l.initial.list.items ++ map (behind l.before) l.yielded)
    × (vec_capacity l.list ≡ vec_capacity l.initial.list)
    × (vec_len l.list ≡ vec_len l.initial.list + length l.yielded)
