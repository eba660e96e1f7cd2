use Rattle.std.proofs.Common.{◌≡◌, ◌==◌, take, map, filter}
use Rattle.dym_script.proofs.object_commands.own_commands.Given as goal

abbrev pub invariant-loop-line : goal.invariant-loop-line
invariant-loop-line l = l.commands.items ≡ map (λ line. line.command) (filter (λ line. line.object == l.object) (take l.line-index l.script.lines.items))
