use Rattle.std.proofs.Common.{is_some, ap, ◌∙◌}
use Rattle.std.specs.Ordering.{nat_cmp}
use Rattle.std.specs.FinSet as FinSet
use Rattle.std.specs.FinMap.{get}
use Rattle.dym_heap.specs.Meaning.{HeapMeaning}
use Rattle.dym_heap.specs.Shelves.{ShelfMeaning}
use Rattle.dym_heap.proofs.Tidy.{meaning_of, sound_of, tidy_same}
use Rattle.dym_heap.proofs.heap.Heap.clear_dirty.Goals as goal

pub invariant_of-self : goal.invariant_of-self
invariant_of-self g c =
    let is = c.clear_touched.ensures.cleared in
    tidy_same c.self.invariant c.clear_touched.ensures.valid_shelf (ap (λ (s : ShelfMeaning). s.counts) is) (λ k some. ap (λ (s : ShelfMeaning). is_some (get s.state.live k)) is ∙ some)

pub returns-clause-cleared : goal.returns-clause-cleared
returns-clause-cleared g c =
    ap (λ (s : ShelfMeaning). meaning_of s c.self.inside.applied) c.clear_touched.ensures.cleared ∙ ap (λ (h : HeapMeaning). record h { state = record { live = h.state.live; touched = FinSet.empty {R = nat_cmp} } }) c.self.view_is

pub returns-clause-sound : goal.returns-clause-sound
returns-clause-sound g c = sound_of c.self.inside.applied (invariant_of-self g c)
