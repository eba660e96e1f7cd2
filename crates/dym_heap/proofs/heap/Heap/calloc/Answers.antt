use Rattle.std.proofs.Common.{◌*◌, ap, ◌∙◌}
use Rattle.dym_base.specs.HeapStep.{HeapAnswer, malloc}
use Rattle.dym_heap.specs.Meaning.{HeapMeaning}
use Rattle.dym_heap.proofs.Sizes.{malloc_saturated}
use Rattle.dym_heap.proofs.heap.Heap.calloc.Goals as goal

pub returns-clause-reply : goal.returns-clause-reply
returns-clause-reply g c =
    let old : HeapMeaning = c.args.self.now in
    let saturated = ap (malloc old.version old.quota old.state) c.saturating_mul.ensures ∙ malloc_saturated old.version old.quota old.state (c.args.n * c.args.len) in
    c.malloc.ensures.reply ∙ ap (λ (a : HeapAnswer). a.reply) saturated

pub returns-clause-after : goal.returns-clause-after
returns-clause-after g c =
    let old : HeapMeaning = c.args.self.now in
    let new : HeapMeaning = c.malloc.new.self in
    let saturated = ap (malloc old.version old.quota old.state) c.saturating_mul.ensures ∙ malloc_saturated old.version old.quota old.state (c.args.n * c.args.len) in
    c.malloc.ensures.after ∙ ap (λ (a : HeapAnswer). record old { state = a.heap; held_ids = new.held_ids }) saturated
