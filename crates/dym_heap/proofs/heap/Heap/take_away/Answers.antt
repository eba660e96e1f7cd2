use Rattle.dym_heap.proofs.Tidy.{sound_of}
use Rattle.dym_heap.proofs.heap.Heap.take_away.Goals as goal

pub returns-clause-sound : goal.returns-clause-sound
returns-clause-sound g c = sound_of c.self.inside.applied c.take_chunk_away.ensures.tidy
