use Rattle.dym_heap.proofs.Counts.{Counted}
use Rattle.dym_heap.proofs.record_shape.count_areas.Given as goal

abbrev pub invariant-loop-k : goal.invariant-loop-k
invariant-loop-k l = record { counted : Counted l.rec l.counts l.k }
