use Rattle.std.proofs.Common.{ap}
use Rattle.dym_heap.specs.Shelves.{ShelfMeaning}
use Rattle.dym_heap.proofs.Opening.{empty_tidy}
use Rattle.dym_heap.proofs.Tidy.{sound_of, meaning_of}
use Rattle.dym_heap.proofs.heap.Heap.open_as.Goals as goal

pub invariant_of-result : goal.invariant_of-result
invariant_of-result g c = empty_tidy c.in-Ok.shelf c.in-Ok.ensures.valid_shelf (ap (λ (s : ShelfMeaning). s.counts) c.in-Ok.ensures.opened)

pub returns-in-Ok-clause-opened : goal.returns-in-Ok-clause-opened
returns-in-Ok-clause-opened g c = ap (λ (s : ShelfMeaning). meaning_of s 0) c.in-Ok.ensures.opened

pub returns-in-Ok-clause-sound : goal.returns-in-Ok-clause-sound
returns-in-Ok-clause-sound g c = sound_of 0 (empty_tidy c.in-Ok.shelf c.in-Ok.ensures.valid_shelf (ap (λ (s : ShelfMeaning). s.counts) c.in-Ok.ensures.opened))
