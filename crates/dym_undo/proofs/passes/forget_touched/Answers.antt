use Rattle.std.proofs.Common.{◌≡◌, Bool, true, false, not, ◌&&◌, refl, sym, ap₂, ◌∙◌, true≢false, nat_cmp}
use Rattle.std.specs.FinSet as set
use Rattle.std.specs.FinSet.{contains-empty, same_set, nat_cmp-IsAntisymmetric}
use Rattle.std.specs.Cmp.{nat_cmp_total}
use Rattle.dym_base.specs.Heaps.{HeapState, Live, Touched}
use Rattle.dym_undo.specs.Passes.{is_headed}
use Rattle.dym_undo.proofs.passes.forget_touched.Goals as goal

either : (b t : Bool) → (t ≡ true → b ≡ true) → (not b && t) ≡ false
either true t h = refl
either false true h = absurd (true≢false (sym (h refl)))
either false false h = refl

pub returns-else-held-heads-clause-state : goal.returns-else-held-heads-clause-state
returns-else-held-heads-clause-state g c =
    let s : HeapState = g.H.UndoHeap.state c.args.heap.now in
    let t : HeapState = g.H.UndoHeap.state c.forget_heads.new.heap in
    let none : t.touched ≡ set.empty = same_set nat_cmp_total nat_cmp-IsAntisymmetric t.touched set.empty (λ k.
    c.forget_heads.ensures.touched k
    ∙ either (is_headed k c.args.heads.now) (set.contains s.touched k) (c.requires.noted k)
    ∙ sym (contains-empty nat_cmp k)) in
    ap₂ (λ (l : Live) (x : Touched). record { live = l; touched = x }) c.forget_heads.ensures.live none
