use Rattle.std.proofs.Common.{◌∙◌}
use Rattle.dym_heap.proofs.LendingCalls as calls
use Rattle.dym_heap.proofs.areas.HeapAreas.chunk_len.Goals as goal

pub sized_area-requires-clause-within : goal.sized_area-requires-clause-within
sized_area-requires-clause-within g c = calls.within_h c.self.view_is c.self.invariant c.requires.area

pub used_len-requires : goal.used_len-requires
used_len-requires g c = calls.is_used_a (calls.area_h c.self.view_is c.self.invariant c.sized_area.ensures.area) c.args.i c.requires.chunk ∙ c.requires.used

pub returns : goal.returns
returns g c = calls.len_a (calls.area_h c.self.view_is c.self.invariant c.sized_area.ensures.area) c.args.i c.used_len.result c.requires.chunk c.used_len.ensures
