-- A live chunk that isn't among the changes since the newest log becomes one of them.
use Rattle.std.proofs.Common.{◌≡◌, ℕ, ◌+◌, ◌<◌, ◌≤◌, false, List, [], ◌∷◌, ◌++◌, length, Option, Some, refl, sym, ap, ap₂, subst, ◌∙◌, arith, length-append}
use Rattle.std.specs.FinMap.{get}
use Rattle.std.proofs.Math.Seq.{take-length}
use Rattle.dym_base.specs.HeapStep.{key}
use Rattle.dym_base.specs.Heaps.{HeapState}
use Rattle.dym_base.specs.Objects.{LogEntry, newest}
use Rattle.dym_base.specs.declared.command.Version.{Version}
use Rattle.dym_base.specs.declared.handle.Handle.{Handle}
use Rattle.dym_undo.specs.Changes.{Change, bytes_of, is_noted}
use Rattle.dym_undo.specs.Heads.{changes_of}
use Rattle.dym_undo.specs.Heaps.{IsWithin}
use Rattle.dym_undo.specs.Keys.{IsKey, with_stamp}
use Rattle.dym_undo.specs.Passes.{Fits}
use Rattle.dym_undo.specs.Rooms.{length_at}
use Rattle.dym_undo.specs.UndoLogs.{UndoMeaning, ArePlaced, Belongs, DiffersAt, IsKept, IsUndoLog, since}
use Rattle.dym_undo.specs.declared.entry.Entry.{Entry}
use Rattle.dym_undo.specs.declared.head.Head.{Head}
use Rattle.dym_undo.proofs.Decoding.{length-changes_of, changes_of-push, noted_bytes-changes_of}
use Rattle.dym_undo.proofs.Keeping.{belongs-keep, kept_noted, still_noted, belongs-change, weight_is, undo_log-push, head_fits, bytes_fit, fits_short, newest_some, placed_more}

-- the head of a live chunk of so many bytes
abbrev pub head_of : Handle → List ℕ → Head
head_of h more = record { handle = h; len = Some (length more) }

-- what the log is to the heap once the chunk of number k is kept
pub record Keeps (v : Version) (q : ℕ) (s : HeapState) (k : ℕ) (old new : UndoMeaning) : Type 0 where
  pub belongs : Belongs v q s new
  pub kept : (t : HeapState) → DiffersAt k s t → Belongs v q t new
  pub noted : IsKept new k
  pub before : (j : ℕ) → IsKept old j → IsKept new j

module _ {quota : ℕ} {entries : List Entry} {places : List ℕ} {heads : List Head} {bytes words : List ℕ} {h b : ℕ} {logs : List LogEntry} (law : IsUndoLog quota entries places heads bytes words h b logs)
    {v : Version} {q : ℕ} {s : HeapState} {u : UndoMeaning} (view : record { logs = logs; places = places; changes = changes_of heads bytes; quota = quota } ≡ u) (belongs : Belongs v q s u)
    (handle : Handle) {more : List ℕ} (within : IsWithin v q s) (live : get s.live (key handle) ≡ Some more) (is_key : IsKey q (key handle)) where
  abbrev k : ℕ
  k = key handle

  abbrev cs : List Change
  cs = changes_of heads bytes

  belongs_u : Belongs v q s (record { logs = logs; places = places; changes = cs; quota = quota })
  belongs_u = subst (Belongs v q s) (sym view) belongs

  placed : ArePlaced 0 (length cs) places
  placed = subst (λ n. ArePlaced 0 n places) (sym (length-changes_of heads bytes)) law.placed

  pub own_key : IsKey quota k
  own_key = subst (λ n. IsKey n k) (sym belongs_u.quota_same) is_key

  pub short : length more ≤ 65536
  short = fits_short v k more (within.sized k more live)

  module _ (logged : 0 < length u.places) (new : is_noted k (since u.places u.changes) ≡ false) where
    some : 0 < length places
    some = subst (λ (x : UndoMeaning). 0 < length x.places) (sym view) logged

    unnoted : is_noted k (since places cs) ≡ false
    unnoted = subst (λ (x : UndoMeaning). is_noted k (since x.places x.changes) ≡ false) (sym view) new

    long : (e : LogEntry) → newest logs ≡ Some e → length more ≤ length_at e.copy k
    long e last =
        let same : length_at e.copy k ≡ length more = ap bytes_of (weight_is s cs places logs e k belongs_u.copies last unnoted ∙ live) in
        omega (arith, same)

    pub head_room : length heads + 1 ≤ h
    head_room =
        omega (arith, head_fits quota _ _ places cs logs (record { key = k; before = Some more }) law.room some own_key unnoted placed, length-changes_of heads bytes)

    pub byte_room : length bytes + length more ≤ b
    byte_room =
        let last = newest_some logs (omega (arith, some, law.each_placed)) in
        omega (
          arith,
          bytes_fit quota _ _ places cs logs (record { key = k; before = Some more }) law.room some own_key unnoted placed last.0 last.1 (long last.0 last.1),
          noted_bytes-changes_of heads bytes (omega (arith, law.whole)),
          law.whole,
        )

    -- the log of the fields after the call
    module _ {new_heads : List Head} {new_bytes : List ℕ} (heads_are : new_heads ≡ heads ++ head_of handle more ∷ []) (bytes_are : new_bytes ≡ bytes ++ more) where
      pub law_after : {new_words : List ℕ} {h' b' : ℕ} → new_words ≡ with_stamp words k → h ≤ h' → b ≤ b' → IsUndoLog quota entries places new_heads new_bytes new_words h' b' logs
      law_after {new_words} {h'} {b'} words_are more_heads more_bytes =
          let done = undo_log-push quota entries places heads bytes words _ _ logs (head_of handle more) more h' b' law some own_key (law.stamps k own_key ∙ unnoted) refl more_heads more_bytes
          (λ e last. omega (arith, long e last, ap length (take-length more))) in
          subst (λ hs. IsUndoLog quota entries places hs new_bytes new_words h' b' logs) (sym heads_are)
          (subst (λ bs. IsUndoLog quota entries places (heads ++ head_of handle more ∷ []) bs new_words h' b' logs) (sym bytes_are)
          (subst (λ ws. IsUndoLog quota entries places (heads ++ head_of handle more ∷ []) (bytes ++ more) ws h' b' logs) (sym words_are) done))

      abbrev change : Change
      change = record { key = k; before = get s.live k }

      pushed : changes_of new_heads new_bytes ≡ cs ++ change ∷ []
      pushed =
          ap₂ changes_of heads_are bytes_are ∙ changes_of-push heads bytes (head_of handle more) more law.whole refl
          ∙ ap (λ (y : Option (List ℕ)). cs ++ record { key = k; before = y } ∷ []) (ap Some (take-length more) ∙ sym live)

      still : Belongs v q s (record { logs = logs; places = places; changes = cs ++ change ∷ []; quota = quota })
      still = belongs-keep v q k s logs places cs quota placed (subst (Fits v k) (sym live) (within.sized k more live)) belongs_u

      pub keeps_it : Keeps v q s k u (record { logs = logs; places = places; changes = changes_of new_heads new_bytes; quota = quota })
      keeps_it =
          subst (λ (l : List Change). Keeps v q s k u (record { logs = logs; places = places; changes = l; quota = quota })) (sym pushed) (record {
            belongs = still;
            kept = λ t differ. belongs-change v q k s t (record { logs = logs; places = places; changes = cs ++ change ∷ []; quota = quota })
                (placed_more 0 (length cs) (length (cs ++ change ∷ [])) places (omega (arith, length-append cs (change ∷ []))) placed)
                (λ _. kept_noted places cs change placed) differ still;
            noted = λ _. kept_noted places cs change placed;
            before = λ j kept some. still_noted places cs change j placed (subst (λ (x : UndoMeaning). IsKept x j) (sym view) kept some);
          })
