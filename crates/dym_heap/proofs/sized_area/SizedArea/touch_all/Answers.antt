use Rattle.std.proofs.Common.{◌∙◌, ◌||◌}
use Rattle.dym_bits.specs.Bits.{bit_in}
use Rattle.dym_heap.proofs.PlaceSteps.{is_place}
use Rattle.dym_heap.proofs.PlaceShapes as shapes
use Rattle.dym_heap.proofs.Touches as touches
use Rattle.dym_heap.proofs.sized_area.SizedArea.touch_all.Goals as goal

pub set_dirty-requires-clause-used : goal.set_dirty-requires-clause-used
set_dirty-requires-clause-used g c = touches.within_used c.self.view_is c.self.invariant c.union-touched.result
    (λ i. c.union-touched.ensures.bits i ∙ (λ j. bit_in (c.dirty.ensures j) i || bit_in (c.used.ensures j) i))

pub invariant_of-self : goal.invariant_of-self
invariant_of-self g c = shapes.touched_measured c.self.view_is c.self.invariant c.union-touched.result c.set_dirty.ensures.after c.set_dirty.ensures.valid

pub returns-clause-touched : goal.returns-clause-touched
returns-clause-touched g c = touches.used_touched_p c.self.view_is c.self.invariant c.union-touched.result
    (λ i. c.union-touched.ensures.bits i ∙ (λ j. bit_in (c.dirty.ensures j) i || bit_in (c.used.ensures j) i)) c.set_dirty.ensures.after c.set_dirty.ensures.valid

pub returns-clause-valid : goal.returns-clause-valid
returns-clause-valid g c = is_place (shapes.touched_measured c.self.view_is c.self.invariant c.union-touched.result c.set_dirty.ensures.after c.set_dirty.ensures.valid)
