use Rattle.std.proofs.Common.{ap, sym, ◌∙◌}
use Rattle.std.specs.FinSet as set
use Rattle.dym_base.specs.HeapStep.{key}
use Rattle.dym_base.specs.Heaps.{HeapState}
use Rattle.dym_undo.proofs.Lists.{contains_remove, and_right}
use Rattle.dym_undo.proofs.passes.put_one.Goals as goal

pub returns-in-Some-clause-touched : goal.returns-in-Some-clause-touched
returns-in-Some-clause-touched g c q is =
    and_right _ _ (sym (contains_remove (g.H.UndoHeap.state c.args.heap.now).touched (key c.args.head.handle) q) ∙ sym (ap (λ (s : HeapState). set.contains s.touched q) c.put_back.ensures.state) ∙ is)
