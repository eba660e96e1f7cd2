use Rattle.std.proofs.Common.{◌∙◌}
use Rattle.dym_heap.proofs.LendingCalls as calls
use Rattle.dym_heap.proofs.areas.HeapAreas.chunk_bytes.Goals as goal

pub sized_area-requires-clause-within : goal.sized_area-requires-clause-within
sized_area-requires-clause-within g c = calls.within_h c.self.view_is c.self.invariant c.requires.area

pub used_bytes-requires : goal.used_bytes-requires
used_bytes-requires g c = calls.is_used_a (calls.area_h c.self.view_is c.self.invariant c.sized_area.ensures.area) c.args.i c.requires.chunk ∙ c.requires.used

pub returns : goal.returns
returns g c = calls.bytes_a (calls.area_h c.self.view_is c.self.invariant c.sized_area.ensures.area) c.args.i _ c.requires.chunk c.used_bytes.ensures
