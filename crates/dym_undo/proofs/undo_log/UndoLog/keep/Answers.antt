use Rattle.std.proofs.Common.{◌≡◌, true, List, length, Bor, ℕ, Option, None, is_some, sym, ap, subst, ◌∙◌, arith, true≢false}
use Rattle.std.specs.Option.{option_copied}
use Rattle.dym_base.specs.HeapStep.{key}
use Rattle.dym_undo.specs.Keys.{IsKey, is_stamped}
use Rattle.dym_undo.specs.UndoLogs.{UndoMeaning}
use Rattle.dym_undo.proofs.Kept.{key_of, kept_changes, logged, stamped_kept, unlogged_kept, unstamped_new}
use Rattle.dym_undo.proofs.undo_log.UndoLog.keep.Goals as goal

pub returns-then-is_empty-clause-noted : goal.returns-then-is_empty-clause-noted
returns-then-is_empty-clause-noted g c has = unlogged_kept c.self.invariant c.self.view_is (omega arith) (sym c.if-is_empty.ensures) (key c.args.handle)

pub returns-then-is_empty-clause-kept : goal.returns-then-is_empty-clause-kept
returns-then-is_empty-clause-kept g c has t differ =
    kept_changes c.self.invariant c.self.view_is _ _ (key c.args.handle) _ t (returns-then-is_empty-clause-noted g c has) differ c.requires.belongs

not_live : (o : Option (List ℕ)) (r : Option (Bor (List ℕ))) → option_copied r ≡ o → is_some o ≡ true → r ≡ None → ⊥
not_live o r e has none = true≢false (sym has ∙ ap is_some (sym e) ∙ ap (λ (x : Option (Bor (List ℕ))). is_some (option_copied x)) none)

pub returns-in_default-clause-kept : goal.returns-in_default-clause-kept
returns-in_default-clause-kept g c has t differ = absurd (not_live _ c.chunk.result c.chunk.ensures has c.in_default.is)

pub returns-in_default-clause-noted : goal.returns-in_default-clause-noted
returns-in_default-clause-noted g c has = absurd (not_live _ c.chunk.result c.chunk.ensures has c.in_default.is)

pub is_stamped_key-requires : goal.is_stamped_key-requires
is_stamped_key-requires g c = omega (arith, ap length c.deref.ensures.value, c.self.invariant.word_count)

pub returns-then-is_stamped_key-clause-noted : goal.returns-then-is_stamped_key-clause-noted
returns-then-is_stamped_key-clause-noted g c has =
    let stamped = c.is_stamped_key.ensures.stamped c.if-is_stamped_key.true in
    stamped_kept c.self.invariant c.self.view_is (key c.args.handle) stamped.0 (ap (λ (w : List ℕ). is_stamped w (key c.args.handle)) (sym c.deref.ensures.value) ∙ stamped.1)

pub returns-then-is_stamped_key-clause-kept : goal.returns-then-is_stamped_key-clause-kept
returns-then-is_stamped_key-clause-kept g c has t differ =
    kept_changes c.self.invariant c.self.view_is _ _ (key c.args.handle) _ t (returns-then-is_stamped_key-clause-noted g c has) differ c.requires.belongs

pub push-requires-clause-logged : goal.push-requires-clause-logged
push-requires-clause-logged g c = logged c.self.invariant c.self.view_is (omega arith) (sym c.if-is_empty.ensures)

pub push-requires-clause-new : goal.push-requires-clause-new
push-requires-clause-new g c =
    let same = ap (λ (u : UndoMeaning). u.quota) c.self.view_is ∙ c.requires.belongs.quota_same in
    let is : IsKey c.self.inside.quota (key c.args.handle) = subst (λ n. IsKey n (key c.args.handle)) (sym same)
    (key_of _ _ _ (key c.args.handle) c.in-Some.bytes.now (g.met.H.UndoHeap.sound_is_within c.args.heap.now c.requires.sound) (sym c.in-Some.ensures)) in
    unstamped_new c.self.invariant c.self.view_is (key c.args.handle) is
    (ap (λ (w : List ℕ). is_stamped w (key c.args.handle)) (sym c.deref.ensures.value) ∙ c.is_stamped_key.ensures.unstamped c.if-is_stamped_key.false is)
