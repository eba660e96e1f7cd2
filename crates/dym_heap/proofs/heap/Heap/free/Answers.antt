use Rattle.dym_heap.proofs.Tidy.{sound_of}
use Rattle.dym_heap.proofs.heap.Heap.free.Goals as goal

pub returns-in_default-clause-sound : goal.returns-in_default-clause-sound
returns-in_default-clause-sound g c = sound_of c.self.inside.applied c.self.invariant

pub returns-then-not-free_handle-clause-sound : goal.returns-then-not-free_handle-clause-sound
returns-then-not-free_handle-clause-sound g c = sound_of c.self.inside.applied c.free_handle.ensures.tidy

pub returns-clause-sound : goal.returns-clause-sound
returns-clause-sound g c = sound_of c.self.inside.applied c.free_handle.ensures.tidy
