use Rattle.std.proofs.Common.{◌≡◌, ◌++◌, All, flat_map}
use Rattle.dym_io.specs.Sink.{Appended}
use Rattle.dymelor_top.specs.LateParts.{IsLatePart, late_part_text}
use Rattle.dymelor_top.proofs.late_order.write_late_parts.Given as goal

abbrev pub invariant-loop-part : goal.invariant-loop-part
invariant-loop-part g l = record {
  written : Appended (g.W.Sink.output l.initial.sink) (g.W.Sink.output l.sink) (flat_map late_part_text l.yielded);
  parts : l.fn.parts.items ≡ l.yielded ++ l.part-iterator.rest.items;
  run : All IsLatePart l.part-iterator.rest.items;
}
