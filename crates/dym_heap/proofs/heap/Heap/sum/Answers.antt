use Rattle.std.proofs.Common.{subst}
use Rattle.dym_base.specs.HeapStep.{key}
use Rattle.dym_heap.specs.Meaning.{IsSound}
use Rattle.dym_heap.proofs.Tidy.{sound_of}
use Rattle.dym_heap.proofs.Sums.{chunk_fits}
use Rattle.dym_heap.proofs.heap.Heap.sum.Goals as goal

pub sum_bytes-requires : goal.sum_bytes-requires
sum_bytes-requires g c =
    chunk_fits c.args.self.now (key c.args.h) c.in-Some.bytes.now (subst IsSound c.self.view_is (sound_of c.self.inside.applied c.self.invariant)) (rw (← c.self.view_is) c.in-Some.ensures)
