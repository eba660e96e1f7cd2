-- A first change is kept.
use Rattle.std.proofs.Common.{◌≡◌, ℕ, ◌+◌, ◌-◌, ◌<◌, ◌≤◌, Bool, true, false, ◌||◌, ◌==◌, List, [], ◌∷◌, ◌++◌, length, map, take, drop, Option, None, Some, refl, sym, ap, ap₂, subst, ◌∙◌, arith, length-append, eq-eqb, true≢false}
use Rattle.std.proofs.lemmas.List.{drop-append-le, take-append-le}
use Rattle.std.specs.FinMap.{get}
use Rattle.std.specs.FinSet.{contains}
use Rattle.dym_base.specs.HeapStep.{key}
use Rattle.dym_base.specs.Heaps.{Live, HeapState}
use Rattle.dym_base.specs.Objects.{LogEntry, newest}
use Rattle.dym_base.specs.declared.command.Version.{Version}
use Rattle.dym_base.specs.declared.command.Version.TheVariants.{One, Two}
use Rattle.dym_base.specs.Numbers.{exponent_of}
use Rattle.std.proofs.Common.{◌^◌}
use Rattle.dym_undo.specs.Changes.{Change, patched, bytes_of, is_noted, noted_bytes}
use Rattle.dym_undo.specs.Heads.{len_of, before_of, change_of, changes_of}
use Rattle.dym_undo.specs.Keys.{IsKey, is_stamped, with_stamp}
use Rattle.dym_undo.specs.Passes.{Fits}
use Rattle.dym_undo.specs.Rooms.{one, length_at, HasRoomAtEach}
use Rattle.dym_undo.specs.UndoLogs.{UndoMeaning, Belongs, DiffersAt, AreCopies, ArePlaced, HasRoom, IsUndoLog, last_place, since}
use Rattle.dym_undo.specs.declared.entry.Entry.{Entry}
use Rattle.dym_undo.specs.declared.head.Head.{Head}
use Rattle.dym_undo.proofs.Patches.{patched-append, put_at-itself, patched-noted, is_noted-append}
use Rattle.dym_undo.proofs.Decoding.{length-changes_of, changes_of-push, bytes_in-join, keys-push, placed_last, fitting-push}
use Rattle.dym_undo.proofs.Pendings.{NotesMore, pending-notes}
use Rattle.dym_undo.proofs.Stamping.{is_stamped-with, length-with}

pub placed_within : (low high : ℕ) (ps : List ℕ) → ArePlaced low high ps → low ≤ high
placed_within low high [] p = p
placed_within low high (x ∷ ps) p = omega (arith, p.0, placed_within x high ps p.1)

pub placed_more : (low high more : ℕ) (ps : List ℕ) → high ≤ more → ArePlaced low high ps → ArePlaced low more ps
placed_more low high more [] le p = omega arith
placed_more low high more (x ∷ ps) le p = (p.0, placed_more x high more ps le p.1)

-- one change more behind the newest log
pub since-push : (low : ℕ) (ps : List ℕ) (cs : List Change) (c : Change) → ArePlaced low (length cs) ps → since ps (cs ++ c ∷ []) ≡ since ps cs ++ c ∷ []
since-push low ps cs c placed = drop-append-le (last_place ps) cs (c ∷ []) (placed_last low (length cs) ps placed)

noted_last : (k : ℕ) (b : Option (List ℕ)) (q : ℕ) → is_noted q (record { key = k; before = b } ∷ []) ≡ (q == k)
noted_last k b q = or_false (q == k)
  where
    or_false : (t : Bool) → (t || false) ≡ t
    or_false true = refl
    or_false false = refl

or_swap : (a b : Bool) → (a || b) ≡ (b || a)
or_swap true true = refl
or_swap true false = refl
or_swap false true = refl
or_swap false false = refl

noted-push : (cs : List Change) (c : Change) (q : ℕ) → is_noted q (cs ++ c ∷ []) ≡ ((q == c.key) || is_noted q cs)
noted-push cs c q = is_noted-append q cs (c ∷ []) ∙ ap (λ b. is_noted q cs || b) (noted_last c.key c.before q) ∙ or_swap (is_noted q cs) (q == c.key)

noted_bytes-append : (cs ds : List Change) → noted_bytes (cs ++ ds) ≡ noted_bytes cs + noted_bytes ds
noted_bytes-append [] ds = omega arith
noted_bytes-append (c ∷ cs) ds = omega (arith, noted_bytes-append cs ds)

pub rooms-append : (quota h b low : ℕ) (ps : List ℕ) (cs ds : List Change) (logs : List LogEntry) → ArePlaced low (length cs) ps → HasRoomAtEach quota h b ps cs logs → HasRoomAtEach quota h b ps (cs ++ ds) logs
rooms-append quota h b low [] cs ds logs placed room = tt
rooms-append quota h b low (p ∷ ps) cs ds [] placed room = tt
rooms-append quota h b low (p ∷ ps) cs ds (e ∷ es) placed room =
    let within : p ≤ length cs = placed_within p (length cs) ps placed.1 in
    (room.0, omega (arith, room.1, ap noted_bytes (take-append-le p cs ds within)), rooms-append quota h b p ps cs ds es placed.1 room.2)

pub rooms-more : (quota h b heads bytes : ℕ) (ps : List ℕ) (cs : List Change) (logs : List LogEntry) → h ≤ heads → b ≤ bytes → HasRoomAtEach quota h b ps cs logs → HasRoomAtEach quota heads bytes ps cs logs
rooms-more quota h b heads bytes [] cs logs i j room = tt
rooms-more quota h b heads bytes (p ∷ ps) cs [] i j room = tt
rooms-more quota h b heads bytes (p ∷ ps) cs (e ∷ es) i j room = (omega (arith, room.0), omega (arith, room.1), rooms-more quota h b heads bytes ps cs es i j room.2)

-- the room that is left holds one change more
module _ (quota h b : ℕ) (places : List ℕ) (cs : List Change) (logs : List LogEntry) (c : Change) (room : HasRoom quota h b places cs logs)
    (some : 0 < length places) (is : IsKey quota c.key) (new : is_noted c.key (since places cs) ≡ false) (placed : ArePlaced 0 (length cs) places) where
  more : NotesMore (since places cs) (since places (cs ++ c ∷ []))
  more k noted = ap (is_noted k) (since-push 0 places cs c placed) ∙ noted-push (since places cs) c k ∙ ap (λ t. (k == c.key) || t) noted ∙ or_true (k == c.key)
    where
      or_true : (t : Bool) → (t || true) ≡ true
      or_true true = refl
      or_true false = refl

  there : is_noted c.key (since places (cs ++ c ∷ [])) ≡ true
  there = ap (is_noted c.key) (since-push 0 places cs c placed) ∙ noted-push (since places cs) c c.key ∙ ap (λ t. t || is_noted c.key (since places cs)) (eq-eqb c.key c.key refl)

  pub head_fits : length cs + 1 ≤ h
  head_fits = omega (arith, room.heads_left some, pending-notes one (since places cs) (since places (cs ++ c ∷ [])) quota c.key more is new there)

  pub bytes_fit : (e : LogEntry) → newest logs ≡ Some e → bytes_of c.before ≤ length_at e.copy c.key → noted_bytes cs + bytes_of c.before ≤ b
  bytes_fit e last long = omega (arith, room.bytes_left e last, long, pending-notes (length_at e.copy) (since places cs) (since places (cs ++ c ∷ [])) quota c.key more is new there)

  pub room-push : (heads bytes : ℕ) → h ≤ heads → b ≤ bytes → ((e : LogEntry) → newest logs ≡ Some e → bytes_of c.before ≤ length_at e.copy c.key) → HasRoom quota heads bytes places (cs ++ c ∷ []) logs
  room-push heads bytes i j long = record {
    heads_left = λ has. omega (arith, i, room.heads_left some, length-append cs (c ∷ []), pending-notes one (since places cs) (since places (cs ++ c ∷ [])) quota c.key more is new there);
    bytes_left = λ e last. omega (arith, j, room.bytes_left e last, long e last, noted_bytes-append cs (c ∷ []), pending-notes (length_at e.copy) (since places cs) (since places (cs ++ c ∷ [])) quota c.key more is new there);
    at_each = rooms-append quota heads bytes 0 places cs (c ∷ []) logs placed (rooms-more quota h b heads bytes places cs logs i j room.at_each);
  }

-- the fields hold one head more
pub undo_log-push : (quota : ℕ) (entries : List Entry) (places : List ℕ) (hs : List Head) (bytes words : List ℕ) (h b : ℕ) (logs : List LogEntry) (x : Head) (more : List ℕ) (heads room_bytes : ℕ)
    → IsUndoLog quota entries places hs bytes words h b logs → 0 < length places → IsKey quota (key x.handle) → is_stamped words (key x.handle) ≡ false → len_of x.len ≡ length more
    → h ≤ heads → b ≤ room_bytes → ((e : LogEntry) → newest logs ≡ Some e → bytes_of (before_of x.len more) ≤ length_at e.copy (key x.handle))
    → IsUndoLog quota entries places (hs ++ x ∷ []) (bytes ++ more) (with_stamp words (key x.handle)) heads room_bytes logs
undo_log-push quota entries places hs bytes words h b logs x more heads room_bytes u some is new same i j long =
    let cs : List Change = changes_of hs bytes in
    let k : ℕ = key x.handle in
    let placed : ArePlaced 0 (length cs) places = subst (λ n. ArePlaced 0 n places) (sym (length-changes_of hs bytes)) u.placed in
    let push : changes_of (hs ++ x ∷ []) (bytes ++ more) ≡ cs ++ change_of x more ∷ [] = changes_of-push hs bytes x more u.whole same in
    record {
      most = u.most;
      entries_are = u.entries_are;
      each_placed = u.each_placed;
      list = u.list;
      within = u.within;
      whole = omega (arith, bytes_in-join hs (x ∷ []), u.whole, length-append bytes more, same);
      keys = keys-push quota hs x u.keys is;
      placed = placed_more 0 (length hs) (length (hs ++ x ∷ [])) places (omega (arith, length-append hs (x ∷ []))) u.placed;
      unlogged = λ none. absurd (omega (arith, some, none));
      word_count = length-with words k ∙ u.word_count;
      stamps = λ q key.
          is_stamped-with quota words k q is key (omega (arith, u.word_count))
          ∙ ap (λ t. (q == k) || t) (u.stamps q key)
          ∙ sym (noted-push (since places cs) (change_of x more) q)
          ∙ sym (ap (is_noted q) (since-push 0 places cs (change_of x more) placed))
          ∙ sym (ap (λ (l : List Change). is_noted q (since places l)) push);
      room = subst (λ (l : List Change). HasRoom quota heads room_bytes places l logs) (sym push)
          (room-push quota h b places cs logs (change_of x more) u.room some is (sym (u.stamps k is) ∙ new) placed heads room_bytes i j long);
    }

-- ---- what the log and its heap have in common

pub copies-push : (live : Live) (low : ℕ) (ps : List ℕ) (cs : List Change) (k : ℕ) (logs : List LogEntry) → ArePlaced low (length cs) ps → AreCopies live cs ps logs → AreCopies live (cs ++ record { key = k; before = get live k } ∷ []) ps logs
copies-push live low [] cs k [] placed copies = tt
copies-push live low [] cs k (e ∷ es) placed copies = copies
copies-push live low (p ∷ ps) cs k [] placed copies = copies
copies-push live low (p ∷ ps) cs k (e ∷ es) placed copies =
    let within : p ≤ length cs = placed_within p (length cs) ps placed.1 in
    let c : Change = record { key = k; before = get live k } in (
      copies.0 ∙ sym (ap (λ (l : List Change). patched l live) (drop-append-le p cs (c ∷ []) within) ∙ patched-append (drop p cs) (c ∷ []) live ∙ ap (patched (drop p cs)) (put_at-itself live k)),
      copies-push live p ps cs k es placed.1 copies.1,
    )

-- a chunk that is noted behind the newest log is noted behind each
noted_each : (low p : ℕ) (ps : List ℕ) (cs : List Change) (k : ℕ) → ArePlaced low (length cs) (p ∷ ps) → is_noted k (since (p ∷ ps) cs) ≡ true → is_noted k (drop p cs) ≡ true
noted_each low p [] cs k placed noted = noted
noted_each low p (q ∷ ps) cs k placed noted = deeper (noted_each p q ps cs k placed.1 noted)
  where
    deeper : is_noted k (drop q cs) ≡ true → is_noted k (drop p cs) ≡ true
    deeper is =
        let split : drop p cs ≡ take (q - p) (drop p cs) ++ drop q cs = sym (Rattle.std.proofs.Common.take-append-drop (q - p) (drop p cs)) ∙ ap (λ (l : List Change). take (q - p) (drop p cs) ++ l) (Rattle.dym_undo.proofs.Decoding.drop_more p (q - p) cs ∙ ap (λ n. drop n cs) (let e : p + (q - p) ≡ q = omega (arith, placed.1.0) in e)) in
        ap (is_noted k) split ∙ is_noted-append k (take (q - p) (drop p cs)) (drop q cs) ∙ ap (λ b. is_noted k (take (q - p) (drop p cs)) || b) is ∙ or_true (is_noted k (take (q - p) (drop p cs)))
      where
        or_true : (t : Bool) → (t || true) ≡ true
        or_true true = refl
        or_true false = refl

pub copies-change : (a b : Live) (low : ℕ) (ps : List ℕ) (cs : List Change) (k : ℕ) (logs : List LogEntry) → ArePlaced low (length cs) ps → (0 < length ps → is_noted k (since ps cs) ≡ true) → ((q : ℕ) → (q == k) ≡ false → get b q ≡ get a q) → AreCopies a cs ps logs → AreCopies b cs ps logs
copies-change a b low [] cs k [] placed noted alike copies = tt
copies-change a b low [] cs k (e ∷ es) placed noted alike copies = copies
copies-change a b low (p ∷ ps) cs k [] placed noted alike copies = copies
copies-change a b low (p ∷ ps) cs k (e ∷ es) placed noted alike copies = (
  copies.0 ∙ patched-noted (drop p cs) k a b (noted_each low p ps cs k placed (noted (omega arith))) (λ q apart. sym (alike q apart)),
  copies-change a b p ps cs k es placed.1 (rest ps noted) alike copies.1,
)
  where
    rest : (ps : List ℕ) → (0 < length (p ∷ ps) → is_noted k (since (p ∷ ps) cs) ≡ true) → 0 < length ps → is_noted k (since ps cs) ≡ true
    rest [] noted some = absurd (omega arith)
    rest (q ∷ qs) noted some = noted (omega arith)

-- the newest copy is the heap before the changes since
pub newest_copy : (live : Live) (cs : List Change) (ps : List ℕ) (logs : List LogEntry) (e : LogEntry) → AreCopies live cs ps logs → newest logs ≡ Some e → e.copy ≡ patched (since ps cs) live
newest_copy live cs [] [] e copies is = absurd (let h : None ≡ Some e = is in cc)
newest_copy live cs [] (x ∷ es) e copies is = absurd copies
newest_copy live cs (p ∷ ps) [] e copies is = absurd copies
newest_copy live cs (p ∷ []) (x ∷ []) e copies is = ap (λ (y : LogEntry). y.copy) (sym (Rattle.std.proofs.lemmas.Option.same_Some x e is)) ∙ copies.0
newest_copy live cs (p ∷ []) (x ∷ y ∷ es) e copies is = absurd copies.1
newest_copy live cs (p ∷ q ∷ ps) (x ∷ []) e copies is = absurd copies.1
newest_copy live cs (p ∷ q ∷ ps) (x ∷ y ∷ es) e copies is = newest_copy live cs (q ∷ ps) (y ∷ es) e copies.1 is

-- what a chunk is is kept
pub belongs-keep : (v : Version) (quota k : ℕ) (s : HeapState) (logs : List LogEntry) (places : List ℕ) (cs : List Change) (q : ℕ) → ArePlaced 0 (length cs) places → Fits v k (get s.live k) → Belongs v quota s (record { logs = logs; places = places; changes = cs; quota = q })
    → Belongs v quota s (record { logs = logs; places = places; changes = cs ++ record { key = k; before = get s.live k } ∷ []; quota = q })
belongs-keep v quota k s logs places cs q placed fits b = record {
  quota_same = b.quota_same;
  copies = copies-push s.live 0 places cs k logs placed b.copies;
  noted = λ some j touched. ap (is_noted j) (since-push 0 places cs (record { key = k; before = get s.live k }) placed)
      ∙ noted-push (since places cs) (record { key = k; before = get s.live k }) j ∙ ap (λ t. (j == k) || t) (b.noted some j touched) ∙ or_true (j == k);
  fitting = fitting-push v cs (record { key = k; before = get s.live k }) b.fitting fits;
}
  where
    or_true : (t : Bool) → (t || true) ≡ true
    or_true true = refl
    or_true false = refl

-- the chunk that is kept is noted
pub kept_noted : (places : List ℕ) (cs : List Change) (c : Change) → ArePlaced 0 (length cs) places → is_noted c.key (since places (cs ++ c ∷ [])) ≡ true
kept_noted places cs c placed =
    ap (is_noted c.key) (since-push 0 places cs c placed) ∙ noted-push (since places cs) c c.key ∙ ap (λ t. t || is_noted c.key (since places cs)) (eq-eqb c.key c.key refl)

-- one that was noted still is
pub still_noted : (places : List ℕ) (cs : List Change) (c : Change) (k : ℕ) → ArePlaced 0 (length cs) places → is_noted k (since places cs) ≡ true → is_noted k (since places (cs ++ c ∷ [])) ≡ true
still_noted places cs c k placed noted =
    ap (is_noted k) (since-push 0 places cs c placed) ∙ noted-push (since places cs) c k ∙ ap (λ t. (k == c.key) || t) noted ∙ or_true (k == c.key)
  where
    or_true : (t : Bool) → (t || true) ≡ true
    or_true true = refl
    or_true false = refl

-- a chunk that is noted changes
pub belongs-change : (v : Version) (quota k : ℕ) (s t : HeapState) (u : UndoMeaning) → ArePlaced 0 (length u.changes) u.places → (0 < length u.places → is_noted k (since u.places u.changes) ≡ true) → DiffersAt k s t → Belongs v quota s u → Belongs v quota t u
belongs-change v quota k s t u placed noted differ b = record {
  quota_same = b.quota_same;
  copies = copies-change s.live t.live 0 u.places u.changes k u.logs placed noted differ.live b.copies;
  noted = λ some q touched. by q some touched (q == k) refl;
  fitting = b.fitting;
}
  where
    by : (q : ℕ) → 0 < length u.places → contains t.touched q ≡ true → (e : Bool) → (q == k) ≡ e → is_noted q (since u.places u.changes) ≡ true
    by q some touched true e = ap (λ j. is_noted j (since u.places u.changes)) (Rattle.std.proofs.Common.eqb-true q k e) ∙ noted some
    by q some touched false e = b.noted some q (differ.touched q e touched)

-- the weight that a log sees of a chunk that isn't noted is the chunk's length
pub weight_is : (s : HeapState) (cs : List Change) (places : List ℕ) (logs : List LogEntry) (e : LogEntry) (k : ℕ) → AreCopies s.live cs places logs → newest logs ≡ Some e → is_noted k (since places cs) ≡ false → get e.copy k ≡ get s.live k
weight_is s cs places logs e k copies last new =
    ap (λ (l : Live). get l k) (newest_copy s.live cs places logs e copies last)
    ∙ Rattle.dym_undo.proofs.Patches.get-patched (since places cs) s.live k
    ∙ Rattle.dym_undo.proofs.Patches.first_of-unnoted k (since places cs) (get s.live k) new

pub some_places : (entries : List Entry) (logs : List LogEntry) (places : List ℕ) → entries ≡ map Rattle.dym_undo.specs.UndoLogs.entry_of logs → length places ≡ length logs → (length entries == 0) ≡ false → 0 < length places
some_places entries [] places are same some = absurd (true≢false (ap (λ (l : List Entry). length l == 0) (sym are) ∙ some))
some_places entries (e ∷ es) places are same some = omega (arith, same)

pub no_places : (entries : List Entry) (logs : List LogEntry) (places : List ℕ) → entries ≡ map Rattle.dym_undo.specs.UndoLogs.entry_of logs → length places ≡ length logs → (length entries == 0) ≡ true → 0 < length places → ⊥
no_places entries [] places are same none has = omega (arith, same, has)
no_places entries (e ∷ es) places are same none has = true≢false (sym none ∙ ap (λ (l : List Entry). length l == 0) are ∙ Rattle.std.proofs.lemmas.Bool.ne_eqb (length (map Rattle.dym_undo.specs.UndoLogs.entry_of (e ∷ es))) 0 (λ e. omega arith))

-- a chunk has at most as many bytes as a segment
pub fits_short : (v : Version) (k : ℕ) (bytes : List ℕ) → Rattle.dym_base.specs.Laws.FitsClass v k bytes → length bytes ≤ 65536
fits_short One k bytes fit =
    let up : 2 ^ exponent_of k ≤ 2 ^ 16 = Rattle.std.proofs.Math.Pow.pow_mono {i = exponent_of k} {j = 16} fit.1 in
    omega (arith, fit.2, up)
fits_short Two k bytes fit =
    let up : 2 ^ exponent_of k ≤ 2 ^ 16 = Rattle.std.proofs.Math.Pow.pow_mono {i = exponent_of k} {j = 16} fit.1 in
    omega (arith, (Rattle.dym_base.proofs.Classes.cls_class (length bytes) (exponent_of k) fit.2).2, up)

-- a slice of all of a vector, written back
pub whole_slice : (n : ℕ) (xs ys : List ℕ) → length xs ≡ length ys → n ≡ length ys → take n (xs ++ drop (length xs) ys) ≡ xs
whole_slice n xs ys same is =
    ap₂ (λ (m : ℕ) (l : List ℕ). take m (xs ++ l)) (is ∙ sym same) (ap (λ k. drop k ys) same ∙ Rattle.std.proofs.Math.Seq.drop-length ys)
    ∙ ap (take (length xs)) (Rattle.std.proofs.Common.append-nil xs) ∙ Rattle.std.proofs.Math.Seq.take-length xs

pub newest_some : (logs : List LogEntry) → 0 < length logs → (e : LogEntry) × (newest logs ≡ Some e)
newest_some [] some = absurd (omega arith)
newest_some (e ∷ []) some = (e, refl)
newest_some (e ∷ f ∷ es) some = newest_some (f ∷ es) (omega arith)
