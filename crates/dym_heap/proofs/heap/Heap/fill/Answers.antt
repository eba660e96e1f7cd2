use Rattle.std.proofs.Common.{subst}
use Rattle.dym_heap.specs.Meaning.{IsSound}
use Rattle.dym_heap.proofs.Tidy.{sound_of}
use Rattle.dym_heap.proofs.heap.Heap.fill.Goals as goal

pub returns-in_default-clause-sound : goal.returns-in_default-clause-sound
returns-in_default-clause-sound g c = subst IsSound c.self.view_is (sound_of c.self.inside.applied c.self.invariant)

pub returns-then-from-clause-sound : goal.returns-then-from-clause-sound
returns-then-from-clause-sound g c = subst IsSound c.self.view_is (sound_of c.self.inside.applied c.self.invariant)

pub returns-then-len-eq0-clause-sound : goal.returns-then-len-eq0-clause-sound
returns-then-len-eq0-clause-sound g c = subst IsSound c.self.view_is (sound_of c.self.inside.applied c.self.invariant)

pub returns-clause-sound : goal.returns-clause-sound
returns-clause-sound g c = sound_of c.self.inside.applied c.fill_chunk.ensures.tidy
