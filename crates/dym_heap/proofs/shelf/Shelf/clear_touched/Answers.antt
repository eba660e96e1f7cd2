use Rattle.dym_heap.proofs.Cleans.{clean_view, cleaned_shelf}
use Rattle.dym_heap.proofs.ShelfCalls.{is_valid}
use Rattle.dym_heap.proofs.AreaBindings.{bound_clean}
use Rattle.dym_heap.proofs.shelf.Shelf.clear_touched.Goals as goal

pub invariant_of-self : goal.invariant_of-self
invariant_of-self g c = (cleaned_shelf c.self.view_is c.self.invariant.0 c.clear_sized_areas.ensures.cleaned c.clear_sized_areas.ensures.room, bound_clean _ _ _ c.clear_sized_areas.ensures.cleaned c.self.invariant.1)

pub returns : goal.returns
returns g c = record { cleared = clean_view c.self.view_is c.self.invariant.0 c.clear_sized_areas.ensures.cleaned; valid_shelf = is_valid _ (cleaned_shelf c.self.view_is c.self.invariant.0 c.clear_sized_areas.ensures.cleaned c.clear_sized_areas.ensures.room) }
