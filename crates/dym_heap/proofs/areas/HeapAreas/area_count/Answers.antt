use Rattle.std.proofs.Common.{◌∙◌}
use Rattle.dym_heap.proofs.LendingCalls as calls
use Rattle.dym_heap.proofs.areas.HeapAreas.area_count.Goals as goal

pub returns : goal.returns
returns g c = c.held.ensures ∙ calls.held_h c.self.view_is c.self.invariant
