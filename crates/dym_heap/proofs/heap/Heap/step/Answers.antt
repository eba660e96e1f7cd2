use Rattle.std.proofs.Common.{subst}
use Rattle.dym_heap.specs.Meaning.{IsSound}
use Rattle.dym_heap.proofs.Tidy.{sound_of}
use Rattle.dym_heap.proofs.heap.Heap.step.Goals as goal

pub returns-in-Follow-clause-sound : goal.returns-in-Follow-clause-sound
returns-in-Follow-clause-sound g c = subst IsSound c.self.view_is (sound_of c.self.inside.applied c.self.invariant)

pub returns-in-Sum-clause-sound : goal.returns-in-Sum-clause-sound
returns-in-Sum-clause-sound g c = subst IsSound c.self.view_is (sound_of c.self.inside.applied c.self.invariant)
