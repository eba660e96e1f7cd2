use Rattle.std.proofs.Common.{is_some, ap, ◌∙◌}
use Rattle.std.specs.FinMap.{get, contains_key}
use Rattle.dym_heap.specs.Shelves.{ShelfMeaning}
use Rattle.dym_heap.proofs.Tidy.{sound_of, tidy_same}
use Rattle.dym_heap.proofs.heap.Heap.shape_to.Goals as goal

pub invariant_of-self : goal.invariant_of-self
invariant_of-self g c =
    let is = c.clear_touched.ensures.cleared in
    tidy_same c.shape_shelf.ensures.tidy c.clear_touched.ensures.valid_shelf (ap (λ (s : ShelfMeaning). s.counts) is) (λ k some. ap (λ (s : ShelfMeaning). is_some (get s.state.live k)) is ∙ some)

pub returns-clause-sound : goal.returns-clause-sound
returns-clause-sound g c = sound_of c.self.inside.applied (invariant_of-self g c)

pub returns-clause-handles : goal.returns-clause-handles
returns-clause-handles g c = λ log is e k. ap (λ (s : ShelfMeaning). contains_key s.state.live k) c.clear_touched.ensures.cleared ∙ (c.shape_shelf.ensures.shaped log is e k).used

pub returns-clause-touched : goal.returns-clause-touched
returns-clause-touched g c = ap (λ (s : ShelfMeaning). s.state.touched) c.clear_touched.ensures.cleared
