use Rattle.std.proofs.Common.{◌-◌, ◌≤◌}
use Rattle.dym_io.specs.Sink.{Leaves}
use Rattle.dym_gen.specs.Scripts.{command_lines}
use Rattle.dym_gen.proofs.script.write_commands.Given as goal

abbrev pub invariant-groups : goal.invariant-groups
invariant-groups g l =
    (l.first ≤ l.commands)
    × Leaves (g.W.Sink.output l.initial.sink) (g.W.Sink.output l.sink) (command_lines l.objects l.commands 0 l.initial.draws.state)
    (command_lines l.objects (l.commands - l.first) l.first l.draws.state)

abbrev pub decreases-groups : goal.decreases-groups
decreases-groups g l = l.commands - l.first
