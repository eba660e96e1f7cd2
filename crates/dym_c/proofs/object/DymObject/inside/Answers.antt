use Rattle.std.proofs.Common.{◌≡◌, ◌∙◌, ap, sym, true, is_none}
use mathlib.Core.Logic.{inr}
use Rattle.dym_undo_object.specs.Meaning.{UndoObjectMeaning}
use Rattle.dym_c.specs.declared.kept.Kept.{Kept}
use Rattle.dym_c.specs.declared.object.DymObject.{DymObject}
use Rattle.dym_c.proofs.object.DymObject.inside.Goals as goal

abbrev of_kept : Kept UndoObjectMeaning → DymObject
of_kept k = record { at = k.at; value = k.value }

pub returns-then-is_closed : goal.returns-then-is_closed
returns-then-is_closed c =
    let kept = c.as_kept-kept.ensures.value in
    let closed : true ≡ is_none c.args.self.now.value = sym c.if-is_closed.true ∙ c.is_closed.ensures.closed ∙ ap (λ (k : Kept UndoObjectMeaning). is_none k.value) kept in
    (ap inr (ap of_kept (c.is_closed.ensures.same ∙ kept)), record { writes_back = tt; closed = closed; value = tt })
