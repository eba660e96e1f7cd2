use Rattle.std.proofs.Common.{take, flat_map}
use Rattle.dym_io.specs.Sink.{Appended}
use Rattle.dym_script.specs.OwnCommands.{own_of}
use Rattle.dym_wave.specs.Reports.{part_text}
use Rattle.dymelor_top.proofs.plain_order.write_parts.Given as goal

abbrev pub invariant-loop-part : goal.invariant-loop-part
invariant-loop-part g l =
    Appended (g.W.Sink.output l.initial.sink) (g.W.Sink.output l.sink) (flat_map (λ part. part_text l.version (own_of part)) (take l.part-index l.parts))
