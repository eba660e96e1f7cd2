use Rattle.dym_heap.proofs.Touches.{touched_view, touched_shelf}
use Rattle.dym_heap.proofs.ShelfCalls.{is_valid}
use Rattle.dym_heap.proofs.AreaBindings.{bound_touched}
use Rattle.dym_heap.proofs.shelf.Shelf.touch_all.Goals as goal

pub invariant_of-self : goal.invariant_of-self
invariant_of-self g c = (touched_shelf c.self.view_is c.self.invariant.0 c.touch_sized_areas.ensures.touched c.touch_sized_areas.ensures.room, bound_touched _ _ _ c.touch_sized_areas.ensures.touched c.self.invariant.1)

pub returns : goal.returns
returns g c = record { touched = touched_view c.self.view_is c.self.invariant.0 c.touch_sized_areas.ensures.touched; valid_shelf = is_valid _ (touched_shelf c.self.view_is c.self.invariant.0 c.touch_sized_areas.ensures.touched c.touch_sized_areas.ensures.room) }
