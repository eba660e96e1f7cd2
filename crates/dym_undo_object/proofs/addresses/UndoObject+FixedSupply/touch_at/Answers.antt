use Rattle.std.proofs.Common.{◌≡◌, ℕ, ◌+◌, ◌==◌, min, ap, sym, subst, ◌∙◌}
use Rattle.std.specs.FinMap.{get}
use Rattle.dym_base.specs.HeapStep.{key}
use Rattle.dym_base.specs.Heaps.{HeapState}
use Rattle.dym_base.specs.declared.handle.Handle.{Handle}
use Rattle.dym_heap.specs.Addresses.{HasByte}
use Rattle.dym_heap.specs.Meaning.{HeapMeaning, IsSound}
use Rattle.dym_heap.specs.Touches.{has_byte_in, touched_in, with_touch}
use Rattle.dym_heap.proofs.ShelfCalls.{some_fits}
use Rattle.dym_undo.specs.UndoLogs.{Belongs}
use Rattle.dym_undo_object.specs.Meaning.{UndoObjectMeaning}
use Rattle.dym_undo_object.proofs.HeapChanges.{touch_differs}
use Rattle.dym_undo_object.proofs.OneTouched.{one_touched}
use Rattle.dym_undo_object.proofs.Ranges.{cut_has, cut_same}
use Rattle.dym_undo_object.proofs.Touched.{belongs_touched, range_kept}
use Rattle.dym_undo_object.proofs.Wholes.{touched_whole}
use Rattle.dym_undo_object.proofs.addresses.UndoObject+FixedSupply.touch_at.Goals as goal

pub returns-in-None-clause-touched : goal.returns-in-None-clause-touched
returns-in-None-clause-touched c =
    (λ i. record { heap = c.touch_at.ensures.touched i; logs = c.keep_in.ensures.logs i; ran = c.self.inside.ran })
    ∙ ap (λ (o : UndoObjectMeaning). record o { heap = record o.heap { state = touched_in o.heap.quota c.args.offset (c.args.offset + c.args.len) o.heap.state } })
    c.self.view_is

pub invariant_of-self-in-None : goal.invariant_of-self-in-None
invariant_of-self-in-None c =
    let h = c.self.inside.heap in
    let u = c.keep_in.new.undo in
    let sum = c.args.offset + c.args.len in
    let kept = range_kept h.version h.quota c.args.offset sum h.state u c.keep_in.ensures.belongs
    (λ k has. c.keep_in.ensures.kept k (cut_has h c.args.offset sum c.saturating_add-end.result k c.self.invariant.whole.sound c.saturating_add-end.ensures has)) in
    record {
      whole = touched_whole h c.touch_at.new.self c.self.inside.undo.logs u.logs c.self.inside.ran (touched_in h.quota c.args.offset sum h.state) c.self.invariant.whole
          c.touch_at.ensures.touched c.touch_at.ensures.sound c.keep_in.ensures.logs;
      belongs = subst (λ (m : HeapMeaning). Belongs m.version m.quota m.state u) (sym c.touch_at.ensures.touched)
          (belongs_touched h.version h.quota h.state (touched_in h.quota c.args.offset sum h.state).touched u kept c.keep_in.ensures.belongs);
    }

pub returns-in-None-clause-whole : goal.returns-in-None-clause-whole
returns-in-None-clause-whole c = (invariant_of-self-in-None c).whole

-- the heap with the one chunk touched that has bytes in the range
one_is : (h new : HeapMeaning) (from end end' : ℕ) (hd : Handle) → IsSound h → end' ≡ min end 18446744073709551615 → HasByte h hd
    → ((k : ℕ) → has_byte_in h.quota h.state.live from end' k ≡ (k == key hd)) → new ≡ record h { state = with_touch h.state (key hd) }
    → new ≡ record h { state = touched_in h.quota from end h.state }
one_is h new from end end' hd sound cut some only touched =
    touched
    ∙ ap (λ (s : HeapState). record h { state = s })
    (one_touched h.quota from end h.state (key hd) (some_fits (get h.state.live (key hd)) 1 some) (λ k. cut_same h from end end' k sound cut ∙ only k))

pub returns-in-Some-clause-touched : goal.returns-in-Some-clause-touched
returns-in-Some-clause-touched c =
    let is = one_is c.self.inside.heap c.touch.new.self c.args.offset (c.args.offset + c.args.len) c.saturating_add-end.result c.in-Some.h c.self.invariant.whole.sound
    c.saturating_add-end.ensures c.in-Some.ensures.some c.in-Some.ensures.only c.touch.ensures.touched in
    (λ i. record { heap = is i; logs = c.keep.ensures.logs i; ran = c.self.inside.ran })
    ∙ ap (λ (o : UndoObjectMeaning). record o { heap = record o.heap { state = touched_in o.heap.quota c.args.offset (c.args.offset + c.args.len) o.heap.state } })
    c.self.view_is

pub invariant_of-self : goal.invariant_of-self
invariant_of-self c =
    let h = c.self.inside.heap in
    let k = key c.in-Some.h in
    record {
      whole = touched_whole h c.touch.new.self c.self.inside.undo.logs c.keep.new.self.logs c.self.inside.ran (with_touch h.state k) c.self.invariant.whole
          c.touch.ensures.touched c.touch.ensures.sound c.keep.ensures.logs;
      belongs = subst (λ (m : HeapMeaning). Belongs m.version m.quota m.state c.keep.new.self) (sym c.touch.ensures.touched)
          (c.keep.ensures.kept (some_fits (get h.state.live k) 1 c.in-Some.ensures.some) (with_touch h.state k) (touch_differs h.state k));
    }

pub returns-in-Some-clause-whole : goal.returns-in-Some-clause-whole
returns-in-Some-clause-whole c = (invariant_of-self c).whole
