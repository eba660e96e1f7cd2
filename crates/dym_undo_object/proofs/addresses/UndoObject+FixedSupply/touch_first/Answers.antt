use Rattle.std.proofs.Common.{◌≡◌, Option, List, ℕ, length, Ok, Some, sym, subst, arith}
use Rattle.std.proofs.lemmas.Bool.{eqb-false}
use Rattle.dym_base.specs.HeapStep.{key}
use Rattle.dym_heap.specs.Addresses.{address_of}
use Rattle.dym_heap.specs.Meaning.{HeapMeaning}
use Rattle.dym_heap.specs.Shelves.{FitsIn}
use Rattle.dym_heap.specs.Touches.{with_touch}
use Rattle.dym_undo.specs.UndoLogs.{Belongs}
use Rattle.dym_undo_object.specs.Meaning.{UndoObjectMeaning}
use Rattle.dym_undo_object.proofs.Calls.{first_here}
use Rattle.dym_undo_object.proofs.HeapChanges.{touch_differs}
use Rattle.dym_undo_object.proofs.addresses.UndoObject+FixedSupply.touch_first.Goals as goal

pub touch-requires-clause-some : goal.touch-requires-clause-some
touch-requires-clause-some c =
    subst (λ (o : Option (List ℕ)). FitsIn o 1) (sym c.in-Some.ensures) (omega (arith, eqb-false (length c.in-Some.bytes.now) 0 (sym c.if-is_empty.ensures)))

pub returns : goal.returns
returns c =
    let o = c.self.inside in
    let t = first_here (Ok c.touch.result) o.heap c.touch.new.self o.undo.logs c.keep_bytes.new.self.logs o.ran c.args.self.now c.self.view_is c.self.invariant.whole c.args.h
    c.in-Some.bytes.now (omega (arith, eqb-false (length c.in-Some.bytes.now) 0 (sym c.if-is_empty.ensures))) c.in-Some.ensures c.touch.ensures.touched c.touch.ensures.sound tt c.keep_bytes.ensures.logs in
    record {
      reply = t.reply;
      place = subst (λ (x : UndoObjectMeaning). address_of x.heap c.args.h ≡ Some c.touch.result) c.self.view_is c.touch.ensures.place;
      step = t.step;
      refused = t.refused;
      whole = t.whole;
    }

pub invariant_of-self : goal.invariant_of-self
invariant_of-self c =
    let s = c.self.inside.heap.state in
    record {
      whole = (returns c).whole;
      belongs = subst (λ (m : HeapMeaning). Belongs m.version m.quota m.state c.keep_bytes.new.self) (sym c.touch.ensures.touched)
          (c.keep_bytes.ensures.kept (with_touch s (key c.args.h)) (touch_differs s (key c.args.h)));
    }
