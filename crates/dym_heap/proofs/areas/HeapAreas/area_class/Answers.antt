use Rattle.std.proofs.Common.{◌∙◌}
use Rattle.dym_heap.proofs.LendingCalls as calls
use Rattle.dym_heap.proofs.areas.HeapAreas.area_class.Goals as goal

pub sized_area-requires-clause-within : goal.sized_area-requires-clause-within
sized_area-requires-clause-within g c = calls.within_h c.self.view_is c.self.invariant c.requires

pub returns : goal.returns
returns g c = c.class.ensures ∙ (calls.area_h c.self.view_is c.self.invariant c.sized_area.ensures.area).exponent
