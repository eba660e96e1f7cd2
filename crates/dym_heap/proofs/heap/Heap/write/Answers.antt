use Rattle.std.proofs.Common.{subst}
use Rattle.dym_heap.specs.Meaning.{IsSound}
use Rattle.dym_heap.proofs.Tidy.{sound_of}
use Rattle.dym_heap.proofs.heap.Heap.write.Goals as goal

pub returns-in_default-clause-sound : goal.returns-in_default-clause-sound
returns-in_default-clause-sound g c = subst IsSound c.self.view_is (sound_of c.self.inside.applied c.self.invariant)

pub returns-then-at-bytes-clause-sound : goal.returns-then-at-bytes-clause-sound
returns-then-at-bytes-clause-sound g c = subst IsSound c.self.view_is (sound_of c.self.inside.applied c.self.invariant)

pub returns-then-is_empty-clause-sound : goal.returns-then-is_empty-clause-sound
returns-then-is_empty-clause-sound g c = subst IsSound c.self.view_is (sound_of c.self.inside.applied c.self.invariant)

pub returns-clause-sound : goal.returns-clause-sound
returns-clause-sound g c = sound_of c.self.inside.applied c.write_chunk.ensures.tidy
