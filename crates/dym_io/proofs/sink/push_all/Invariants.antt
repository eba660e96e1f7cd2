-- Of the piece all but the rest is written, and each turn leaves less of it.
use Rattle.std.proofs.Common.{length}
use Rattle.dym_io.specs.Sink.{Leaves}
use Rattle.dym_io.proofs.sink.push_all.Given as goal

abbrev pub invariant-loop-rest : goal.invariant-loop-rest
invariant-loop-rest g l = Leaves (g.W.Sink.output l.initial.sink) (g.W.Sink.output l.sink) l.piece l.rest

abbrev pub decreases-loop-rest : goal.decreases-loop-rest
decreases-loop-rest g l = length l.rest
