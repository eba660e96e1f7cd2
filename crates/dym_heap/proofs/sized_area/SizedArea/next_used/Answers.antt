use Rattle.dym_heap.proofs.PlaceFacts as facts
use Rattle.dym_heap.proofs.sized_area.SizedArea.next_used.Goals as goal

pub returns : goal.returns
returns g c = facts.next_p c.self.view_is c.self.invariant c.next_used.result c.args.from c.next_used.ensures
