use Rattle.std.proofs.Common.{arith, ap, ◌+◌, ◌∙◌}
use Rattle.dym_heap.specs.Fetches.{heap_chunk}
use Rattle.dym_heap.specs.Meaning.{HeapMeaning}
use Rattle.dym_heap.specs.Touches.{touched_besides, touched_in}
use Rattle.dym_heap.proofs.Ranges.{seen, met_far, cut_end, touched_state}
use Rattle.dym_heap.specs.Shelves.{ShelfMeaning}
use Rattle.dym_heap.proofs.Tidy.{meaning_of, sound_of}
use Rattle.dym_heap.proofs.address.Heap+FixedSupply.touch_at.Goals as goal

pub returns-clause-touched : goal.returns-clause-touched
returns-clause-touched c =
    let s = c.self.inside.shelf in
    let same = c.touch_range.ensures.same in
    let sum = c.args.offset + c.args.len in
    let cut = cut_end s.quota sum c.saturating_add.result c.self.invariant.valid_shelf.quota_most c.saturating_add.ensures in
    let less = c.saturating_add.ensures in
    let state = touched_state s.quota c.args.offset sum s.state c.touch_range.new.shelf.state (λ k.
    c.touch_range.ensures.touched k
    ∙ ap (λ b. touched_besides b (heap_chunk s.state k)) (met_far c.args.offset cut (omega (arith, less)) (seen c.self.invariant k))) in
    ap (λ (x : ShelfMeaning). meaning_of x c.self.inside.applied) same ∙ ap (λ st. meaning_of (record s { state = st }) c.self.inside.applied) state
    ∙ ap (λ (h : HeapMeaning). record h { state = touched_in h.quota c.args.offset (c.args.offset + c.args.len) h.state }) c.self.view_is

pub returns-clause-sound : goal.returns-clause-sound
returns-clause-sound c = sound_of c.self.inside.applied c.touch_range.ensures.tidy
