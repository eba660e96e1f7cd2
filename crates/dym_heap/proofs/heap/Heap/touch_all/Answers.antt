use Rattle.std.proofs.Common.{is_some, ap, ◌∙◌}
use Rattle.dym_heap.specs.Touches.{all_touched}
use Rattle.std.specs.FinMap.{get}
use Rattle.dym_heap.specs.Meaning.{HeapMeaning}
use Rattle.dym_heap.specs.Shelves.{ShelfMeaning}
use Rattle.dym_heap.proofs.Tidy.{meaning_of, sound_of, tidy_same}
use Rattle.dym_heap.proofs.heap.Heap.touch_all.Goals as goal

pub invariant_of-self : goal.invariant_of-self
invariant_of-self g c =
    let is = c.touch_all.ensures.touched in
    tidy_same c.self.invariant c.touch_all.ensures.valid_shelf (ap (λ (s : ShelfMeaning). s.counts) is) (λ k some. ap (λ (s : ShelfMeaning). is_some (get s.state.live k)) is ∙ some)

pub returns-clause-touched : goal.returns-clause-touched
returns-clause-touched g c =
    ap (λ (s : ShelfMeaning). meaning_of s c.self.inside.applied) c.touch_all.ensures.touched ∙ ap (λ (h : HeapMeaning). record h { state = all_touched h.state }) c.self.view_is

pub returns-clause-sound : goal.returns-clause-sound
returns-clause-sound g c = sound_of c.self.inside.applied (invariant_of-self g c)
