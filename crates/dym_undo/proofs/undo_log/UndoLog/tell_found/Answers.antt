use Rattle.std.proofs.Common.{map, sym, ap, subst, ◌∙◌}
use Rattle.std.specs.Vec.{vec_capacity}
use Rattle.dym_undo.specs.UndoLogs.{UndoMeaning, IsUndoLog, unfound}
use Rattle.dym_undo.proofs.Telling.{undo_log-told}
use Rattle.dym_undo.proofs.undo_log.UndoLog.tell_found.Goals as goal

pub invariant_of-self : goal.invariant_of-self
invariant_of-self g c =
    let inside = c.self.inside in
    let alike = c.requires ∙ ap (λ (u : UndoMeaning). map unfound u.logs) (sym c.self.view_is) in
    subst (IsUndoLog inside.quota inside.entries.items inside.places.items inside.heads.items inside.bytes.items inside.words.items (vec_capacity inside.heads) (vec_capacity inside.bytes)) (sym c.cut.ensures)
    (undo_log-told inside.quota inside.entries.items inside.places.items inside.heads.items inside.bytes.items inside.words.items _ _ inside.ghost_logs.logs g.told alike c.self.invariant)
