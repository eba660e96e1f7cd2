use Rattle.std.proofs.Common.{◌+◌, sym, ap, ◌∙◌, not, ◌&&◌, List, drop}
use Rattle.std.specs.FinSet as set
use Rattle.dym_base.specs.Heaps.{HeapState}
use Rattle.dym_undo.specs.Passes.{is_headed}
use Rattle.dym_undo.specs.declared.head.Head.{Head}
use Rattle.dym_undo.proofs.Lists.{next, contains_remove}
use Rattle.dym_undo.proofs.Walks.{not_either}
use Rattle.dym_undo.proofs.passes.forget_heads.Goals as goal

pub loop-head-preserved : goal.loop-head-preserved
loop-head-preserved g c =
    let hs : List Head = c.args.heads.now in
    record {
      sound = c.forget.ensures.sound;
      live = ap (λ (s : HeapState). s.live) c.forget.ensures.state ∙ c.loop-head.invariant.live;
      touched = λ k.
          ap (λ (s : HeapState). not (is_headed k (drop (c.loop-head.head-index + 1) hs)) && set.contains s.touched k) c.forget.ensures.state
          ∙ ap (λ b. not (is_headed k (drop (c.loop-head.head-index + 1) hs)) && b) (contains_remove (g.H.UndoHeap.state c.loop-head.heap).touched _ k)
          ∙ not_either _ (is_headed k (drop (c.loop-head.head-index + 1) hs)) (set.contains (g.H.UndoHeap.state c.loop-head.heap).touched k)
          ∙ sym (ap (λ (l : List Head). not (is_headed k l) && set.contains (g.H.UndoHeap.state c.loop-head.heap).touched k) (next hs c.loop-head.head-index _ c.loop-head-test.true))
          ∙ c.loop-head.invariant.touched k;
      rest = g.met.H.UndoHeap.rest_along _ _ _ c.loop-head.invariant.rest c.forget.ensures.rest;
    }
