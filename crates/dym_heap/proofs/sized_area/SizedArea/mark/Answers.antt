use Rattle.std.proofs.Common.{ap, ◌∙◌, ◌&&◌, ◌||◌}
use Rattle.dym_bits.specs.Bits.{bit_in}
use Rattle.dym_heap.proofs.PlaceSteps.{is_place}
use Rattle.dym_heap.proofs.PlaceShapes as shapes
use Rattle.dym_heap.proofs.sized_area.SizedArea.mark.Goals as goal

pub set_dirty-requires-clause-used : goal.set_dirty-requires-clause-used
set_dirty-requires-clause-used g c = shapes.dirty_or_used c.self.inside.area c.args.packed.now c.intersection-packed.result c.union-touched.result c.self.invariant.valid (λ i. c.intersection-packed.ensures.bits i ∙ ap (λ bits. bit_in bits i && bit_in c.args.packed.now i) c.used.ensures) (λ i. c.union-touched.ensures.bits i ∙ ap (λ bits. bit_in bits i || bit_in c.intersection-packed.result i) c.dirty.ensures)

pub invariant_of-self : goal.invariant_of-self
invariant_of-self g c = shapes.touched_measured c.self.view_is c.self.invariant c.union-touched.result c.set_dirty.ensures.after c.set_dirty.ensures.valid

pub returns-clause-same : goal.returns-clause-same
returns-clause-same g c = shapes.touched_same c.self.view_is c.self.invariant c.union-touched.result c.set_dirty.ensures.after c.set_dirty.ensures.valid

pub returns-clause-marked : goal.returns-clause-marked
returns-clause-marked g c = shapes.marked_chunk c.self.view_is c.self.invariant c.union-touched.result c.args.packed.now c.intersection-packed.result c.set_dirty.ensures.after c.set_dirty.ensures.valid (λ i. c.intersection-packed.ensures.bits i ∙ ap (λ bits. bit_in bits i && bit_in c.args.packed.now i) c.used.ensures) (λ i. c.union-touched.ensures.bits i ∙ ap (λ bits. bit_in bits i || bit_in c.intersection-packed.result i) c.dirty.ensures)

pub returns-clause-valid : goal.returns-clause-valid
returns-clause-valid g c = is_place (shapes.touched_measured c.self.view_is c.self.invariant c.union-touched.result c.set_dirty.ensures.after c.set_dirty.ensures.valid)
