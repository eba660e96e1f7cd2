-- What the logs of a heap tell of a chunk before it is kept: whether it is among the changes since the newest log.
use Rattle.std.proofs.Common.{◌≡◌, ℕ, ◌<◌, ◌==◌, true, false, List, length, Some, is_some, refl, sym, ap, subst, ◌∙◌, arith}
use Rattle.std.specs.FinMap.{get}
use Rattle.dym_base.specs.Heaps.{HeapState}
use Rattle.dym_base.specs.Numbers.{exponent_of}
use Rattle.dym_base.specs.Objects.{LogEntry}
use Rattle.dym_base.specs.declared.command.Version.{Version}
use Rattle.dym_base.proofs.Heaps.{areas_below, areas_held}
use Rattle.dym_undo.specs.Changes.{is_noted}
use Rattle.dym_undo.specs.Heads.{changes_of}
use Rattle.dym_undo.specs.Heaps.{IsWithin}
use Rattle.dym_undo.specs.Keys.{IsKey, is_stamped}
use Rattle.dym_undo.specs.UndoLogs.{UndoMeaning, ArePlaced, Belongs, DiffersAt, IsKept, IsUndoLog, since}
use Rattle.dym_undo.specs.declared.entry.Entry.{Entry}
use Rattle.dym_undo.specs.declared.head.Head.{Head}
use Rattle.dym_undo.proofs.Decoding.{length-changes_of}
use Rattle.dym_undo.proofs.Keeping.{belongs-change, some_places, no_places}

-- a live chunk of a heap that is within its quota has the number of a handle that can be live
pub key_of : (v : Version) (quota : ℕ) (s : HeapState) (k : ℕ) (bytes : List ℕ) → IsWithin v quota s → get s.live k ≡ Some bytes → IsKey quota k
key_of v quota s k bytes law is =
    let fit = law.sized k bytes is in
    record {
      least = fit.0;
      greatest = fit.1;
      area = (areas_below s.live (exponent_of k) quota).0 (omega (arith, areas_held s.live (exponent_of k) fit.0 fit.1, law.within)) k (ap is_some is) refl;
    }

module _ {quota : ℕ} {entries : List Entry} {places : List ℕ} {heads : List Head} {bytes words : List ℕ} {h b : ℕ} {logs : List LogEntry} (law : IsUndoLog quota entries places heads bytes words h b logs)
    {u : UndoMeaning} (view : record { logs = logs; places = places; changes = changes_of heads bytes; quota = quota } ≡ u) where
  placed : ArePlaced 0 (length u.changes) u.places
  placed = subst (λ (x : UndoMeaning). ArePlaced 0 (length x.changes) x.places) view (subst (λ n. ArePlaced 0 n places) (sym (length-changes_of heads bytes)) law.placed)

  -- a chunk that is kept may change
  pub kept_changes : (v : Version) (q k : ℕ) (s t : HeapState) → IsKept u k → DiffersAt k s t → Belongs v q s u → Belongs v q t u
  kept_changes v q k s t kept differ belongs = belongs-change v q k s t u placed kept differ belongs

  module _ {len : ℕ} (long : len ≡ length entries) where
    -- while there is no log each chunk counts as kept
    pub unlogged_kept : (len == 0) ≡ true → (k : ℕ) → IsKept u k
    unlogged_kept none k =
        subst (λ (x : UndoMeaning). IsKept x k) view
        (λ some. absurd (no_places entries logs places law.entries_are law.each_placed (ap (λ n. n == 0) (sym long) ∙ none) some))

    pub logged : (len == 0) ≡ false → 0 < length u.places
    logged some =
        subst (λ (x : UndoMeaning). 0 < length x.places) view
        (some_places entries logs places law.entries_are law.each_placed (ap (λ n. n == 0) (sym long) ∙ some))

  module _ (k : ℕ) (key : IsKey quota k) where
    pub stamped_kept : is_stamped words k ≡ true → IsKept u k
    stamped_kept stamped = subst (λ (x : UndoMeaning). IsKept x k) view (λ some. sym (law.stamps k key) ∙ stamped)

    pub unstamped_new : is_stamped words k ≡ false → is_noted k (since u.places u.changes) ≡ false
    unstamped_new clear = subst (λ (x : UndoMeaning). is_noted k (since x.places x.changes) ≡ false) view (sym (law.stamps k key) ∙ clear)
