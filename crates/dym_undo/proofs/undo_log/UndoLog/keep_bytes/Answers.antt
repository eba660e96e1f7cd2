use Rattle.std.proofs.Common.{List, ℕ, sym, ap, subst, ◌∙◌}
use Rattle.dym_base.specs.HeapStep.{key}
use Rattle.dym_undo.specs.Keys.{IsKey, is_stamped}
use Rattle.dym_undo.specs.UndoLogs.{UndoMeaning}
use Rattle.dym_undo.proofs.Kept.{kept_changes, stamped_kept}
use Rattle.dym_undo.proofs.undo_log.UndoLog.keep_bytes.Goals as goal

pub returns-then-is_stamped-clause-kept : goal.returns-then-is_stamped-clause-kept
returns-then-is_stamped-clause-kept g c t differ =
    let same = ap (λ (u : UndoMeaning). u.quota) c.self.view_is ∙ c.requires.belongs.quota_same in
    let is : IsKey c.self.inside.quota (key c.args.handle) = subst (λ n. IsKey n (key c.args.handle)) (sym same) c.live_is_key.ensures in
    let stamped = ap (λ (w : List ℕ). is_stamped w (key c.args.handle)) (sym c.deref.ensures.value) ∙ sym c.if-is_stamped.ensures in
    kept_changes c.self.invariant c.self.view_is _ _ (key c.args.handle) _ t (stamped_kept c.self.invariant c.self.view_is (key c.args.handle) is stamped) differ c.requires.belongs
