use Rattle.std.proofs.Common.{sym, ap, ◌∙◌}
use Rattle.dym_heap.specs.Meaning.{HeapMeaning}
use Rattle.dym_heap.proofs.heap.Heap.is_unmodified.Goals as goal

pub returns : goal.returns
returns g c h = sym (ap (λ (x : HeapMeaning). x.state.touched) c.self.view_is) ∙ c.is_unmodified.ensures h
