use Rattle.dym_heap.proofs.Tidy.{sound_of}
use Rattle.dym_heap.proofs.heap.Heap.load.Goals as goal

pub returns-clause-sound : goal.returns-clause-sound
returns-clause-sound g c = sound_of c.self.inside.applied c.load_record.ensures.tidy
