use Rattle.std.proofs.Common.{subst}
use Rattle.dym_heap.specs.Meaning.{IsSound}
use Rattle.dym_heap.proofs.Tidy.{sound_of}
use Rattle.dym_heap.proofs.heap.Heap.realloc_live.Goals as goal

pub returns-in_default-clause-sound : goal.returns-in_default-clause-sound
returns-in_default-clause-sound g c = subst IsSound c.self.view_is (sound_of c.self.inside.applied c.self.invariant)

pub returns-in_default-of_len-clause-sound : goal.returns-in_default-of_len-clause-sound
returns-in_default-of_len-clause-sound g c = subst IsSound c.self.view_is (sound_of c.self.inside.applied c.self.invariant)

pub returns-then-class-h-clause-sound : goal.returns-then-class-h-clause-sound
returns-then-class-h-clause-sound g c = sound_of c.self.inside.applied c.resize_chunk.ensures.tidy

pub returns-clause-sound : goal.returns-clause-sound
returns-clause-sound g c = sound_of c.self.inside.applied c.move_chunk.ensures.tidy
