use Rattle.std.proofs.Common.{sym, ap, ◌∙◌}
use Rattle.dym_heap.specs.Shelves.{ShelfMeaning}
use Rattle.dym_heap.proofs.Cleans.{clean_view}
use Rattle.dym_heap.proofs.shelf.Shelf.is_unmodified.Goals as goal

pub returns : goal.returns
returns g c h = ap (λ (s : ShelfMeaning). s.state.touched) (sym c.self.view_is ∙ clean_view c.self.view_is c.self.invariant.0 (sym (c.are_unmodified.ensures h)))
