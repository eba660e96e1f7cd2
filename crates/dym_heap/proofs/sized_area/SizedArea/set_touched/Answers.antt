use Rattle.dym_heap.proofs.PlaceSteps.{is_place}
use Rattle.dym_heap.proofs.PlaceFacts as facts
use Rattle.dym_heap.proofs.PlaceShapes as shapes
use Rattle.dym_heap.proofs.sized_area.SizedArea.set_touched.Goals as goal

pub set_dirty-requires-clause-used : goal.set_dirty-requires-clause-used
set_dirty-requires-clause-used g c = λ i h. facts.set_p c.self.view_is c.self.invariant i (c.requires.used i h)

pub invariant_of-self : goal.invariant_of-self
invariant_of-self g c = shapes.touched_measured c.self.view_is c.self.invariant c.args.touched c.set_dirty.ensures.after c.set_dirty.ensures.valid

pub returns-clause-same : goal.returns-clause-same
returns-clause-same g c = shapes.touched_same c.self.view_is c.self.invariant c.args.touched c.set_dirty.ensures.after c.set_dirty.ensures.valid

pub returns-clause-touched : goal.returns-clause-touched
returns-clause-touched g c = shapes.touched_marks c.self.view_is c.self.invariant c.args.touched c.set_dirty.ensures.after c.set_dirty.ensures.valid

pub returns-clause-valid : goal.returns-clause-valid
returns-clause-valid g c = is_place (shapes.touched_measured c.self.view_is c.self.invariant c.args.touched c.set_dirty.ensures.after c.set_dirty.ensures.valid)
