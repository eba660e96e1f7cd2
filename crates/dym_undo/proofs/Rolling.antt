-- A restore: the newest logs leave, and the changes behind the target.
use Rattle.std.proofs.Common.{◌≡◌, ℕ, zero, suc, ◌+◌, ◌/◌, ◌<◌, ◌≤◌, List, [], ◌∷◌, ◌++◌, length, take, drop, None, Some, get_or, refl, sym, ap, ap₂, subst, ◌∙◌, arith, take-append-drop, length-take-le, true≢false}
use Rattle.std.proofs.lemmas.List.{take-append-le, drop-append-le, take-map, get_or-take}
use Rattle.std.proofs.lemmas.List.Elements.{All-from_recursion}
use Rattle.std.proofs.Math.ListN.{drop_of_length-le}
use Rattle.std.proofs.lemmas.Option.{same_Some}
use Rattle.std.specs.FinSet as set
use Rattle.std.specs.FinSet.{contains, contains-empty, same_set, nat_cmp-IsAntisymmetric}
use Rattle.std.specs.Cmp.{nat_cmp_total}
use Rattle.std.specs.Ordering.{nat_cmp}
use Rattle.dym_base.specs.Heaps.{Live, HeapState, held}
use Rattle.dym_base.specs.Objects.{LogEntry, ObjectState, newest, reached, restore, restore_to}
use Rattle.dym_base.specs.declared.command.Version.{Version}
use Rattle.dym_base.proofs.Runs.{all_take, follows_take}
use Rattle.dym_undo.specs.Changes.{Change, patched, is_noted, noted_bytes}
use Rattle.dym_undo.specs.Heads.{changes_of, bytes_in}
use Rattle.dym_undo.specs.Keys.{IsKey}
use Rattle.dym_undo.specs.Passes.{IsUnstamped, TouchesNoMore}
use Rattle.dym_undo.specs.Rooms.{HasRoomAtEach, all_handles, all_bytes, pending, one, length_at}
use Rattle.dym_undo.specs.UndoLogs.{Belongs, AreCopies, ArePlaced, IsUndoLog, last_place, since, entry_of, no_entry, log_at}
use Rattle.dym_undo.specs.declared.entry.Entry.{Entry}
use Rattle.dym_undo.specs.declared.head.Head.{Head}
use Rattle.dym_undo.proofs.Decoding.{length-changes_of, changes_of-cut, bytes_in-split, keys-take, fitting-take}
use Rattle.dym_undo.proofs.Lists.{false_of}
use Rattle.dym_undo.proofs.Patches.{patched-append}
use Rattle.dym_undo.proofs.Pendings.{pending-all}
use Rattle.dym_undo.proofs.Places.{newest_there}
use Rattle.dym_undo.proofs.Keeping.{placed_within, rooms-more}

-- the log at a place is the heap before the changes behind it
pub copy_at : (live : Live) (cs : List Change) (ps : List ℕ) (logs : List LogEntry) (n : ℕ) (d : LogEntry) → AreCopies live cs ps logs → n < length ps → (get_or logs n d).copy ≡ patched (drop (get_or ps n 0) cs) live
copy_at live cs [] logs n d copies lt = absurd (omega arith)
copy_at live cs (p ∷ ps) [] n d copies lt = absurd copies
copy_at live cs (p ∷ ps) (e ∷ es) zero d copies lt = copies.0
copy_at live cs (p ∷ ps) (e ∷ es) (suc n) d copies lt = copy_at live cs ps es n d copies.1 (omega arith)

pub placed_at : (low high n : ℕ) (ps : List ℕ) → n < length ps → ArePlaced low high ps → get_or ps n 0 ≤ high
placed_at low high n [] lt p = absurd (omega arith)
placed_at low high zero (x ∷ ps) lt p = placed_within x high ps p.1
placed_at low high (suc n) (x ∷ ps) lt p = placed_at x high n ps (omega arith) p.1

pub placed_take : (low high n : ℕ) (ps : List ℕ) → n < length ps → ArePlaced low high ps → ArePlaced low (get_or ps n 0) (take (suc n) ps)
placed_take low high n [] lt p = absurd (omega arith)
placed_take low high zero (x ∷ ps) lt p = (p.0, omega arith)
placed_take low high (suc n) (x ∷ ps) lt p = (p.0, placed_take x high n ps (omega arith) p.1)

-- the first logs over the heap that one of them found
pub copies_take : (live : Live) (cs ds : List Change) (low n : ℕ) (ps : List ℕ) (logs : List LogEntry) → ArePlaced low (length cs) (take n ps) → AreCopies live (cs ++ ds) ps logs → AreCopies (patched ds live) cs (take n ps) (take n logs)
copies_take live cs ds low zero ps logs placed copies = tt
copies_take live cs ds low (suc n) [] [] placed copies = tt
copies_take live cs ds low (suc n) [] (e ∷ es) placed copies = absurd copies
copies_take live cs ds low (suc n) (p ∷ ps) [] placed copies = absurd copies
copies_take live cs ds low (suc n) (p ∷ ps) (e ∷ es) placed copies =
    let within : p ≤ length cs = placed_within p (length cs) (take n ps) placed.1 in (
      copies.0 ∙ ap (λ (l : List Change). patched l live) (drop-append-le p cs ds within) ∙ patched-append (drop p cs) ds live,
      copies_take live cs ds p n ps es placed.1 copies.1,
    )

-- ---- the fields after a restore

pub same_at : (ps : List ℕ) (n d e : ℕ) → n < length ps → get_or ps n d ≡ get_or ps n e
same_at [] n d e lt = absurd (omega arith)
same_at (p ∷ ps) zero d e lt = refl
same_at (p ∷ ps) (suc n) d e lt = same_at ps n d e (omega arith)

last_take : (n : ℕ) (ps : List ℕ) → n < length ps → last_place (take (suc n) ps) ≡ get_or ps n 0
last_take n [] lt = absurd (omega arith)
last_take zero (p ∷ ps) lt = refl
last_take (suc n) (p ∷ []) lt = absurd (omega arith)
last_take (suc n) (p ∷ q ∷ ps) lt = last_take n (q ∷ ps) (omega arith)

rooms_get : (quota h b n : ℕ) (ps : List ℕ) (cs : List Change) (logs : List LogEntry) → n < length ps → n < length logs → HasRoomAtEach quota h b ps cs logs
    → (get_or ps n 0 + all_handles quota ≤ h) × (noted_bytes (take (get_or ps n 0) cs) + all_bytes (log_at logs n).copy quota ≤ b)
rooms_get quota h b n [] cs logs lt lt' room = absurd (omega arith)
rooms_get quota h b n (p ∷ ps) cs [] lt lt' room = absurd (omega arith)
rooms_get quota h b zero (p ∷ ps) cs (e ∷ es) lt lt' room = (room.0, room.1)
rooms_get quota h b (suc n) (p ∷ ps) cs (e ∷ es) lt lt' room = rooms_get quota h b n ps cs es (omega arith) (omega arith) room.2

rooms_take : (quota h b n : ℕ) (ps : List ℕ) (cs : List Change) (logs : List LogEntry) → HasRoomAtEach quota h b ps cs logs → HasRoomAtEach quota h b (take n ps) cs (take n logs)
rooms_take quota h b zero ps cs logs room = tt
rooms_take quota h b (suc n) [] cs logs room = tt
rooms_take quota h b (suc n) (p ∷ ps) cs [] room = tt
rooms_take quota h b (suc n) (p ∷ ps) cs (e ∷ es) room = (room.0, room.1, rooms_take quota h b n ps cs es room.2)

-- the changes behind the last place don't count
rooms_cut : (quota h b low : ℕ) (ps : List ℕ) (cs ds : List Change) (logs : List LogEntry) → ArePlaced low (length cs) ps → HasRoomAtEach quota h b ps (cs ++ ds) logs → HasRoomAtEach quota h b ps cs logs
rooms_cut quota h b low [] cs ds logs placed room = tt
rooms_cut quota h b low (p ∷ ps) cs ds [] placed room = tt
rooms_cut quota h b low (p ∷ ps) cs ds (e ∷ es) placed room =
    let within : p ≤ length cs = placed_within p (length cs) ps placed.1 in
    (room.0, omega (arith, room.1, ap noted_bytes (take-append-le p cs ds within)), rooms_cut quota h b p ps cs ds es placed.1 room.2)

-- log m of an undo log is restored
module _ (quota : ℕ) (entries : List Entry) (places : List ℕ) (hs : List Head) (bytes words : List ℕ) (h b : ℕ) (logs : List LogEntry) (m : ℕ)
    (u : IsUndoLog quota entries places hs bytes words h b logs) (lt : m < length places) where
  abbrev place : ℕ
  place = get_or places m 0

  abbrev cs : List Change
  cs = changes_of hs bytes

  abbrev left : List Change
  left = changes_of (take place hs) (take (bytes_in (take place hs)) bytes)

  logged : m < length logs
  logged = omega (arith, lt, u.each_placed)

  pub restore-within_heads : place ≤ length hs
  restore-within_heads = placed_at 0 (length hs) m places lt u.placed

  pub restore-within : (live : Live) → AreCopies live cs places logs → held (patched (drop place cs) live) ≤ quota
  restore-within live copies =
      subst (λ (l : Live). held l ≤ quota) (copy_at live cs places logs m no_entry copies lt) (All-from_recursion (λ (e : LogEntry). held e.copy ≤ quota) logs u.within m no_entry logged)

  pub left_is : left ≡ take place cs
  left_is = changes_of-cut place hs bytes u.whole

  head_count : length (take place hs) ≡ place
  head_count = length-take-le place hs restore-within_heads

  change_count : length (take place cs) ≡ place
  change_count = length-take-le place cs (omega (arith, restore-within_heads, length-changes_of hs bytes))

  none : since (take (suc m) places) left ≡ []
  none = ap₂ (λ (n : ℕ) (l : List Change). drop n l) (last_take m places lt) left_is ∙ drop_of_length-le (take place cs) (omega (arith, change_count))

  placed : ArePlaced 0 place (take (suc m) places)
  placed = placed_take 0 (length hs) m places lt u.placed

  room_at : (place + all_handles quota ≤ h) × (noted_bytes (take place cs) + all_bytes (log_at logs m).copy quota ≤ b)
  room_at = rooms_get quota h b m places cs logs lt logged u.room.at_each

  rooms : HasRoomAtEach quota h b (take (suc m) places) (take place cs) (take (suc m) logs)
  rooms =
      rooms_cut quota h b 0 (take (suc m) places) (take place cs) (drop place cs) (take (suc m) logs) (subst (λ n. ArePlaced 0 n (take (suc m) places)) (sym change_count) placed)
      (subst (λ (l : List Change). HasRoomAtEach quota h b (take (suc m) places) l (take (suc m) logs)) (sym (take-append-drop place cs)) (rooms_take quota h b (suc m) places cs logs u.room.at_each))

  pub newest_left : newest (take (suc m) logs) ≡ Some (log_at logs m)
  newest_left = newest_there (take (suc m) logs) m (length-take-le (suc m) logs (omega (arith, logged))) ∙ ap Some (get_or-take (suc m) logs m no_entry (omega arith))

  pub undo_log-restore : (new_words : List ℕ) (heads room_bytes : ℕ) → length new_words ≡ length words → IsUnstamped new_words → h ≤ heads → b ≤ room_bytes
      → IsUndoLog quota (take (suc m) entries) (take (suc m) places) (take place hs) (take (bytes_in (take place hs)) bytes) new_words heads room_bytes (take (suc m) logs)
  undo_log-restore new_words heads room_bytes same_words unstamped i j = record {
    most = u.most;
    entries_are = ap (take (suc m)) u.entries_are ∙ take-map entry_of (suc m) logs;
    each_placed = length-take-le (suc m) places (omega (arith, lt)) ∙ sym (length-take-le (suc m) logs (omega (arith, logged)));
    list = (omega (arith, length-take-le (suc m) logs (omega (arith, logged)), logged, u.list.0), all_take (λ (e : LogEntry). e.depth ≤ 31) (suc m) logs u.list.1, follows_take (suc m) logs u.list.2);
    within = all_take (λ (e : LogEntry). held e.copy ≤ quota) (suc m) logs u.within;
    whole = sym (length-take-le (bytes_in (take place hs)) bytes (omega (arith, bytes_in-split place hs, u.whole)));
    keys = keys-take quota place hs u.keys;
    placed = subst (λ n. ArePlaced 0 n (take (suc m) places)) (sym head_count) placed;
    unlogged = λ empty. absurd (omega (arith, empty, length-take-le (suc m) places (omega (arith, lt))));
    word_count = same_words ∙ u.word_count;
    stamps = λ k is. unstamped k (subst (λ n. IsKey n k) (let limit : quota ≡ length new_words / 64 = omega (arith, same_words, u.word_count) in limit) is) ∙ sym (ap (is_noted k) none);
    room = record {
      heads_left = λ _. omega (arith, i, room_at.0, ap length left_is, change_count, ap (λ (l : List Change). pending one l quota) none, pending-all quota);
      bytes_left = λ e last.
          let same : log_at logs m ≡ e = same_Some (log_at logs m) e (sym newest_left ∙ last) in
          subst (λ (x : LogEntry). noted_bytes left + pending (length_at x.copy) (since (take (suc m) places) left) quota ≤ room_bytes) same
          (omega (arith, j, room_at.1, ap noted_bytes left_is, ap (λ (l : List Change). pending (length_at (log_at logs m).copy) l quota) none));
      at_each = rooms-more quota h b heads room_bytes (take (suc m) places) left (take (suc m) logs) i j
          (subst (λ (l : List Change). HasRoomAtEach quota h b (take (suc m) places) l (take (suc m) logs)) (sym left_is) rooms);
    };
  }

  pub belongs-restore : (v : Version) (limit q : ℕ) (s : HeapState) → Belongs v limit s (record { logs = logs; places = places; changes = cs; quota = q })
      → Belongs v limit (record { live = patched (drop place cs) s.live; touched = set.empty }) (record { logs = take (suc m) logs; places = take (suc m) places; changes = take place cs; quota = q })
  belongs-restore v limit q s belongs = record {
    quota_same = belongs.quota_same;
    copies = copies_take s.live (take place cs) (drop place cs) 0 (suc m) places logs (subst (λ n. ArePlaced 0 n (take (suc m) places)) (sym change_count) placed)
        (subst (λ (l : List Change). AreCopies s.live l places logs) (sym (take-append-drop place cs)) belongs.copies);
    noted = λ _ k touched. absurd (true≢false (sym touched ∙ contains-empty nat_cmp k));
    fitting = fitting-take v place cs belongs.fitting;
  }

-- what touches no more than nothing touches nothing
pub touches_none : (s t : HeapState) → s.touched ≡ set.empty → TouchesNoMore s t → t.touched ≡ set.empty
touches_none s t is less = same_set nat_cmp_total nat_cmp-IsAntisymmetric t.touched set.empty (λ k.
    false_of (contains t.touched k) (λ has. true≢false (sym (less k has) ∙ ap (λ (x : Rattle.dym_base.specs.Heaps.Touched). contains x k) is ∙ contains-empty nat_cmp k)) ∙ sym (contains-empty nat_cmp k))

-- ---- the answer of a restore

pub none_restored : (s : ObjectState) (t : ℕ) → reached t s.logs ≡ 0 → restore s t ≡ restore_to s [] None
none_restored s t none = ap (λ n. restore_to s (take n s.logs) (newest (take n s.logs))) none

pub restored_is : (s : ObjectState) (t m : ℕ) → suc m ≡ reached t s.logs → newest (take (suc m) s.logs) ≡ Some (log_at s.logs m) → restore s t ≡ restore_to s (take (suc m) s.logs) (Some (log_at s.logs m))
restored_is s t m is last = ap (λ n. restore_to s (take n s.logs) (newest (take n s.logs))) (sym is) ∙ ap (restore_to s (take (suc m) s.logs)) last
