use Rattle.std.proofs.Common.{◌∙◌}
use Rattle.dym_heap.proofs.LendingCalls as calls
use Rattle.dym_heap.proofs.areas.HeapAreas.chunk_used.Goals as goal

pub sized_area-requires-clause-within : goal.sized_area-requires-clause-within
sized_area-requires-clause-within g c = calls.within_h c.self.view_is c.self.invariant c.requires.area

pub is_used-requires : goal.is_used-requires
is_used-requires g c = calls.inside_a (calls.area_h c.self.view_is c.self.invariant c.sized_area.ensures.area) c.args.i c.requires.chunk

pub returns : goal.returns
returns g c = c.is_used.ensures ∙ calls.is_used_a (calls.area_h c.self.view_is c.self.invariant c.sized_area.ensures.area) c.args.i c.requires.chunk
