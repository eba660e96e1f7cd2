use Rattle.std.proofs.Common.{false}
use Rattle.dym_heap.proofs.PlaceSteps.{is_place}
use Rattle.dym_heap.proofs.PlaceFacts as facts
use Rattle.dym_heap.proofs.PlaceUndo as undo
use Rattle.dym_heap.proofs.sized_area.SizedArea.forget.Goals as goal

pub clear_dirty_at-requires : goal.clear_dirty_at-requires
clear_dirty_at-requires g c = facts.below_p c.self.view_is c.self.invariant c.requires

pub invariant_of-self : goal.invariant_of-self
invariant_of-self g c = (undo.marked_p c.self.view_is c.self.invariant _ c.args.i false c.clear_dirty_at.ensures.after c.clear_dirty_at.ensures.valid (facts.below_p c.self.view_is c.self.invariant c.requires)).measured

pub returns-clause-forgotten : goal.returns-clause-forgotten
returns-clause-forgotten g c = (undo.marked_p c.self.view_is c.self.invariant _ c.args.i false c.clear_dirty_at.ensures.after c.clear_dirty_at.ensures.valid (facts.below_p c.self.view_is c.self.invariant c.requires)).is

pub returns-clause-valid : goal.returns-clause-valid
returns-clause-valid g c = is_place (undo.marked_p c.self.view_is c.self.invariant _ c.args.i false c.clear_dirty_at.ensures.after c.clear_dirty_at.ensures.valid (facts.below_p c.self.view_is c.self.invariant c.requires)).measured
