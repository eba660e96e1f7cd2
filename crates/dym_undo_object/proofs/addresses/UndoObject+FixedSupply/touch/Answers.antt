use Rattle.std.proofs.Common.{◌≡◌, Ok, Some, subst}
use Rattle.dym_heap.specs.Addresses.{address_of}
use Rattle.dym_undo_object.specs.Meaning.{UndoObjectMeaning}
use Rattle.dym_undo_object.proofs.Calls.{touched_here}
use Rattle.dym_undo_object.proofs.addresses.UndoObject+FixedSupply.touch.Goals as goal

pub returns-in-Some : goal.returns-in-Some
returns-in-Some c =
    let o = c.self.inside in
    let t = touched_here (Ok c.in-Some.place) o.heap o.undo.logs o.ran c.args.self.now c.self.view_is
    c.self.invariant.whole c.args.h c.in-Some.ensures.1 c.in-Some.ensures.0 in
    record {
      reply = t.reply;
      place = subst (λ (x : UndoObjectMeaning). address_of x.heap c.args.h ≡ Some c.in-Some.place) c.self.view_is
          c.in-Some.ensures.2;
      step = t.step;
      refused = t.refused;
      whole = t.whole;
    }

pub invariant_of-self : goal.invariant_of-self
invariant_of-self c = record { whole = (returns-in-Some c).whole; belongs = c.self.invariant.belongs }
