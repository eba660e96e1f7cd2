use Rattle.dym_heap.proofs.PlaceSteps.{is_place}
use Rattle.dym_heap.proofs.PlaceFacts as facts
use Rattle.dym_heap.proofs.sized_area.SizedArea.clear_touched.Goals as goal

pub returns-clause-cleared : goal.returns-clause-cleared
returns-clause-cleared g c = (facts.cleaned_p c.self.view_is c.self.invariant _ c.clear_dirty.ensures.after c.clear_dirty.ensures.valid).is

pub returns-clause-valid : goal.returns-clause-valid
returns-clause-valid g c = is_place (facts.cleaned_p c.self.view_is c.self.invariant _ c.clear_dirty.ensures.after c.clear_dirty.ensures.valid).measured
