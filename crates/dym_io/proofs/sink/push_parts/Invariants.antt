-- The pieces so far are written.
use Rattle.std.proofs.Common.{take, flat_map}
use Rattle.dym_io.specs.Sink.{Appended}
use Rattle.dym_io.proofs.sink.push_parts.Given as goal

abbrev pub invariant-loop-part : goal.invariant-loop-part
invariant-loop-part g l = Appended (g.W.Sink.output l.initial.sink) (g.W.Sink.output l.sink) (flat_map (λ part. part.now) (take l.part-index l.parts))
