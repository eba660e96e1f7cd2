use Rattle.std.proofs.Common.{◌≡◌, Option, Some, sym, ap, arith}
use mathlib.Core.Logic.{inr}
use Rattle.dym_undo_object.specs.Meaning.{UndoObjectMeaning}
use Rattle.dym_c.specs.Calls.{status_unready}
use Rattle.dym_c.specs.declared.object.DymObject.{DymObject}
use Rattle.dym_c.proofs.object.DymObject.ready.Goals as goal

-- where what is lent isn't written, the object is as before
as_before : (o : DymObject) (w : UndoObjectMeaning) → o.value ≡ Some w → record o { value = Some w } ≡ o
as_before o w is = ap (λ (v : Option UndoObjectMeaning). record o { value = v }) (sym is)

pub returns-then-ran-ge-COUNT_LIMIT : goal.returns-then-ran-ge-COUNT_LIMIT
returns-then-ran-ge-COUNT_LIMIT c =
    let unready : status_unready c.args.self.now.value ≡ Some 10
    = search (arith, c.in-Some.ensures.value, c.inside-2.view_is, c.ran.ensures, c.if-ran-ge-COUNT_LIMIT.true) in
    (ap inr (as_before c.args.self.now c.in-Some.inside.now c.in-Some.ensures.value), record { writes_back = tt; inside = tt; unready = unready })
