use Rattle.std.proofs.Common.{◌-◌, ◌≤◌}
use Rattle.std.specs.Prelude.{flat_map}
use Rattle.std.specs.List.{range_with_len}
use Rattle.dym_io.specs.Sink.{Leaves}
use Rattle.dym_gen.specs.Scripts.{object_line, object_lines}
use Rattle.dym_gen.proofs.script.write_objects.Given as goal

abbrev pub invariant-groups : goal.invariant-groups
invariant-groups g l =
    (l.first ≤ l.objects)
    × Leaves (g.W.Sink.output l.initial.sink) (g.W.Sink.output l.sink) (object_lines l.objects)
    (flat_map object_line (range_with_len l.first (l.objects - l.first)))

abbrev pub decreases-groups : goal.decreases-groups
decreases-groups g l = l.objects - l.first
