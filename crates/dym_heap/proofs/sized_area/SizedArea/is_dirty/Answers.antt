use Rattle.std.proofs.Common.{◌∙◌}
use Rattle.dym_heap.proofs.PlaceFacts as facts
use Rattle.dym_heap.proofs.LendingCalls as calls
use Rattle.dym_heap.proofs.sized_area.SizedArea.is_dirty.Goals as goal

pub is_dirty-requires : goal.is_dirty-requires
is_dirty-requires g c = facts.below_p c.self.view_is c.self.invariant c.requires

pub returns : goal.returns
returns g c = c.is_dirty.ensures ∙ calls.touched_p c.self.view_is c.self.invariant c.args.i
