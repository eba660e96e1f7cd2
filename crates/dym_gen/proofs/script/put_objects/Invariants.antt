use Rattle.std.proofs.Common.{◌≡◌, ◌*◌, ◌≤◌, take, flat_map}
use Rattle.std.specs.List.{range_with_len}
use Rattle.dym_gen.specs.Scripts.{object_line}
use Rattle.dym_gen.proofs.script.put_objects.Given as goal

abbrev pub invariant-loop-i : goal.invariant-loop-i
invariant-loop-i l = (l.end ≤ 40 * l.i) × (take l.end l.page ≡ flat_map object_line (range_with_len l.first l.i))
