use Rattle.std.proofs.Common.{ap, sym, ◌∙◌, ◌≡◌, None}
use Rattle.std.specs.FinSet as set
use Rattle.std.specs.FinMap.{get}
use Rattle.dym_base.specs.HeapStep.{key}
use Rattle.dym_base.specs.Heaps.{HeapState}
use Rattle.dym_undo.proofs.Lists.{contains_remove, and_right, copied_none}
use Rattle.dym_undo.proofs.Patches.{put_at-itself}
use Rattle.dym_undo.specs.Changes.{put_at}
use Rattle.dym_undo.proofs.passes.take_chunk.Goals as goal

pub returns-then-is_some-clause-touched : goal.returns-then-is_some-clause-touched
returns-then-is_some-clause-touched g c q is =
    and_right _ _ (sym (contains_remove (g.H.UndoHeap.state c.args.heap.now).touched (key c.args.handle) q) ∙ sym (ap (λ (s : HeapState). set.contains s.touched q) c.take_away.ensures.state) ∙ is)

pub returns-else-is_some-clause-live : goal.returns-else-is_some-clause-live
returns-else-is_some-clause-live g c =
    let s : HeapState = g.H.UndoHeap.state c.args.heap.now in
    let none : get s.live (key c.args.handle) ≡ None = sym c.chunk.ensures ∙ copied_none c.chunk.result (sym c.is_some.ensures ∙ c.if-is_some.false) in
    sym (sym (ap (put_at s.live (key c.args.handle)) none) ∙ put_at-itself s.live (key c.args.handle))
