use Rattle.dym_heap.proofs.PlaceFacts as facts
use Rattle.dym_heap.proofs.sized_area.SizedArea.is_full.Goals as goal

pub returns : goal.returns
returns g c =
    (λ h. facts.full_p c.self.view_is c.self.invariant (c.is_full.ensures.0 h), λ full. c.is_full.ensures.1 (facts.not_full_p c.self.view_is c.self.invariant full))
