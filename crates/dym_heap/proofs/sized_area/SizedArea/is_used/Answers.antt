use Rattle.std.proofs.Common.{◌∙◌}
use Rattle.dym_heap.proofs.PlaceFacts as facts
use Rattle.dym_heap.proofs.LendingCalls as calls
use Rattle.dym_heap.proofs.sized_area.SizedArea.is_used.Goals as goal

pub is_used-requires : goal.is_used-requires
is_used-requires g c = facts.below_p c.self.view_is c.self.invariant c.requires

pub returns : goal.returns
returns g c = c.is_used.ensures ∙ calls.used_p c.self.view_is c.self.invariant c.args.i
