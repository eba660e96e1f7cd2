use Rattle.std.proofs.Common.{true, ap, ◌∙◌}
use Rattle.dym_heap.specs.SizedAreas.{area_with_chunk}
use Rattle.dym_heap.proofs.PlaceSteps.{is_place}
use Rattle.dym_heap.proofs.PlaceFacts as facts
use Rattle.dym_heap.proofs.PlaceUndo as undo
use Rattle.dym_heap.proofs.sized_area.SizedArea.touch.Goals as goal

pub set_dirty_at-requires : goal.set_dirty_at-requires
set_dirty_at-requires g c = (facts.in_use c.self.view_is c.self.invariant c.args.i 1 c.requires).is_set

pub invariant_of-self : goal.invariant_of-self
invariant_of-self g c =
    let u = facts.in_use c.self.view_is c.self.invariant c.args.i 1 c.requires in
    (undo.marked_p c.self.view_is c.self.invariant _ c.args.i true c.set_dirty_at.ensures.after c.set_dirty_at.ensures.valid u.below).measured

pub returns-clause-touched : goal.returns-clause-touched
returns-clause-touched g c =
    let u = facts.in_use c.self.view_is c.self.invariant c.args.i 1 c.requires in
    facts.match_some _ _ u.at
    ((undo.marked_p c.self.view_is c.self.invariant _ c.args.i true c.set_dirty_at.ensures.after c.set_dirty_at.ensures.valid u.below).is
    ∙ ap (λ o. area_with_chunk c.args.self.now c.args.i o true) u.at)

pub returns-clause-valid : goal.returns-clause-valid
returns-clause-valid g c =
    let u = facts.in_use c.self.view_is c.self.invariant c.args.i 1 c.requires in
    is_place (undo.marked_p c.self.view_is c.self.invariant _ c.args.i true c.set_dirty_at.ensures.after c.set_dirty_at.ensures.valid u.below).measured
