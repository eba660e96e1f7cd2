-- A prune: the oldest logs leave, and perhaps the changes before the first place that is left.
use Rattle.std.proofs.Common.{◌≡◌, ℕ, zero, suc, ◌+◌, ◌-◌, ◌<◌, ◌≤◌, List, [], ◌∷◌, length, map, take, drop, refl, sym, ap, subst, ◌∙◌, arith}
use Rattle.std.proofs.lemmas.List.{length-drop, length-map, drop-map, drop-take}
use Rattle.std.proofs.Math.Seq.{drop-nil}
use Rattle.dym_base.specs.Heaps.{Live, HeapState, held}
use Rattle.dym_base.specs.Objects.{LogEntry, newest}
use Rattle.dym_base.specs.declared.command.Version.{Version}
use Rattle.dym_base.proofs.Runs.{all_drop, follows_drop}
use Rattle.dym_undo.specs.Changes.{Change, patched, is_noted, noted_bytes}
use Rattle.dym_undo.specs.Heads.{changes_of, bytes_in}
use Rattle.dym_undo.specs.Rooms.{HasRoomAtEach, pending, one, length_at}
use Rattle.dym_undo.specs.UndoLogs.{Belongs, AreCopies, ArePlaced, IsUndoLog, last_place, since, entry_of}
use Rattle.dym_undo.specs.declared.entry.Entry.{Entry}
use Rattle.dym_undo.specs.declared.head.Head.{Head}
use Rattle.dym_undo.proofs.Decoding.{drop_more, changes_of-drop, bytes_in-split, keys-drop, fitting-drop}

-- ---- the first logs leave

placed_lower : (low lower high : ℕ) (ps : List ℕ) → lower ≤ low → ArePlaced low high ps → ArePlaced lower high ps
placed_lower low lower high [] le p = omega (arith, p)
placed_lower low lower high (x ∷ ps) le p = (omega (arith, p.0), p.1)

pub placed_drop : (n low high : ℕ) (ps : List ℕ) → ArePlaced low high ps → ArePlaced low high (drop n ps)
placed_drop zero low high ps p = p
placed_drop (suc n) low high [] p = p
placed_drop (suc n) low high (x ∷ ps) p = placed_drop n low high ps (placed_lower x low high ps p.0 p.1)

last_drop : (n : ℕ) (ps : List ℕ) → n < length ps → last_place (drop n ps) ≡ last_place ps
last_drop zero ps lt = refl
last_drop (suc n) [] lt = absurd (omega arith)
last_drop (suc n) (p ∷ []) lt = absurd (omega arith)
last_drop (suc n) (p ∷ q ∷ ps) lt = last_drop n (q ∷ ps) (omega arith)

newest_drop : (n : ℕ) (logs : List LogEntry) → n < length logs → newest (drop n logs) ≡ newest logs
newest_drop zero logs lt = refl
newest_drop (suc n) [] lt = absurd (omega arith)
newest_drop (suc n) (e ∷ []) lt = absurd (omega arith)
newest_drop (suc n) (e ∷ f ∷ logs) lt = newest_drop n (f ∷ logs) (omega arith)

rooms_drop : (quota h b n : ℕ) (ps : List ℕ) (cs : List Change) (logs : List LogEntry) → HasRoomAtEach quota h b ps cs logs → HasRoomAtEach quota h b (drop n ps) cs (drop n logs)
rooms_drop quota h b zero ps cs logs room = room
rooms_drop quota h b (suc n) [] cs logs room = tt
rooms_drop quota h b (suc n) (p ∷ ps) cs [] room = without (drop n ps)
  where
    without : (xs : List ℕ) → HasRoomAtEach quota h b xs cs []
    without [] = tt
    without (x ∷ xs) = tt
rooms_drop quota h b (suc n) (p ∷ ps) cs (e ∷ es) room = rooms_drop quota h b n ps cs es room.2

copies_drop : (live : Live) (cs : List Change) (n : ℕ) (ps : List ℕ) (logs : List LogEntry) → AreCopies live cs ps logs → AreCopies live cs (drop n ps) (drop n logs)
copies_drop live cs zero ps logs copies = copies
copies_drop live cs (suc n) [] [] copies = tt
copies_drop live cs (suc n) [] (e ∷ es) copies = absurd copies
copies_drop live cs (suc n) (p ∷ ps) [] copies = absurd copies
copies_drop live cs (suc n) (p ∷ ps) (e ∷ es) copies = copies_drop live cs n ps es copies.1

pub undo_log-drop : (quota : ℕ) (entries : List Entry) (places : List ℕ) (hs : List Head) (bytes words : List ℕ) (h b : ℕ) (logs : List LogEntry) (n : ℕ)
    → IsUndoLog quota entries places hs bytes words h b logs → n < length places → IsUndoLog quota (drop n entries) (drop n places) hs bytes words h b (drop n logs)
undo_log-drop quota entries places hs bytes words h b logs n u lt =
    let cs : List Change = changes_of hs bytes in
    let same : since (drop n places) cs ≡ since places cs = ap (λ k. drop k cs) (last_drop n places lt) in
    record {
      most = u.most;
      entries_are = ap (drop n) u.entries_are ∙ drop-map entry_of n logs;
      each_placed = length-drop n places ∙ ap (λ k. k - n) u.each_placed ∙ sym (length-drop n logs);
      list = (omega (arith, length-drop n logs, u.list.0), all_drop (λ (e : LogEntry). e.depth ≤ 31) n logs u.list.1, follows_drop n logs u.list.2);
      within = all_drop (λ (e : LogEntry). held e.copy ≤ quota) n logs u.within;
      whole = u.whole;
      keys = u.keys;
      placed = placed_drop n 0 (length hs) places u.placed;
      unlogged = λ empty. absurd (omega (arith, empty, lt, length-drop n places));
      word_count = u.word_count;
      stamps = λ k is. u.stamps k is ∙ ap (is_noted k) (sym same);
      room = record {
        heads_left = λ _. omega (arith, u.room.heads_left (omega (arith, lt)), ap (λ (l : List Change). pending one l quota) same);
        bytes_left = λ e last.
            omega (arith, u.room.bytes_left e (sym (newest_drop n logs (omega (arith, lt, u.each_placed))) ∙ last), ap (λ (l : List Change). pending (length_at e.copy) l quota) same);
        at_each = rooms_drop quota h b n places cs logs u.room.at_each;
      };
    }

pub belongs-drop : (v : Version) (limit q n : ℕ) (s : HeapState) (logs : List LogEntry) (places : List ℕ) (cs : List Change) → n < length places → Belongs v limit s (record { logs = logs; places = places; changes = cs; quota = q })
    → Belongs v limit s (record { logs = drop n logs; places = drop n places; changes = cs; quota = q })
belongs-drop v limit q n s logs places cs lt b = record {
  quota_same = b.quota_same;
  copies = copies_drop s.live cs n places logs b.copies;
  noted = λ _ k touched. ap (λ p. is_noted k (drop p cs)) (last_drop n places lt) ∙ b.noted (omega (arith, lt)) k touched;
  fitting = b.fitting;
}

-- ---- the first changes leave

abbrev pub less : ℕ → ℕ → ℕ
less n p = p - n

placed_less : (n low high : ℕ) (ps : List ℕ) → n ≤ low → ArePlaced low high ps → ArePlaced (low - n) (high - n) (map (less n) ps)
placed_less n low high [] le p = omega (arith, p)
placed_less n low high (x ∷ ps) le p = (omega (arith, p.0), placed_less n x high ps (omega (arith, p.0)) p.1)

tail_same : (n p : ℕ) (cs : List Change) → n ≤ p → drop (p - n) (drop n cs) ≡ drop p cs
tail_same n p cs le = drop_more n (p - n) cs ∙ ap (λ k. drop k cs) (let e : n + (p - n) ≡ p = omega (arith, le) in e)

last_less : (n : ℕ) (ps : List ℕ) → last_place (map (less n) ps) ≡ last_place ps - n
last_less n [] = omega arith
last_less n (p ∷ []) = refl
last_less n (p ∷ q ∷ ps) = last_less n (q ∷ ps)

low_last : (low high p : ℕ) (ps : List ℕ) → ArePlaced low high (p ∷ ps) → low ≤ last_place (p ∷ ps)
low_last low high p [] placed = placed.0
low_last low high p (q ∷ ps) placed = omega (arith, placed.0, low_last p high q ps placed.1)

-- what stands behind the last place stays
since_less : (n high : ℕ) (ps : List ℕ) (cs : List Change) → ArePlaced n high ps → (length ps ≡ 0 → cs ≡ []) → since (map (less n) ps) (drop n cs) ≡ since ps cs
since_less n high [] cs placed empty = ap (drop n) (empty refl) ∙ drop-nil n ∙ sym (empty refl)
since_less n high (p ∷ ps) cs placed empty =
    ap (λ k. drop k (drop n cs)) (last_less n (p ∷ ps)) ∙ tail_same n (last_place (p ∷ ps)) cs (low_last n high p ps placed)

noted_bytes-drop : (n : ℕ) (cs : List Change) → noted_bytes (drop n cs) ≤ noted_bytes cs
noted_bytes-drop zero cs = omega arith
noted_bytes-drop (suc n) [] = omega arith
noted_bytes-drop (suc n) (c ∷ cs) = omega (arith, noted_bytes-drop n cs)

noted_bytes-middle : (n p : ℕ) (cs : List Change) → n ≤ p → noted_bytes (take (p - n) (drop n cs)) ≤ noted_bytes (take p cs)
noted_bytes-middle n p cs le =
    let e : n + (p - n) ≡ p = omega (arith, le) in
    omega (arith, ap noted_bytes (drop-take n (p - n) cs), noted_bytes-drop n (take (n + (p - n)) cs), ap (λ k. noted_bytes (take k cs)) e)

rooms_less : (quota h b n low high : ℕ) (ps : List ℕ) (cs : List Change) (logs : List LogEntry) → n ≤ low → ArePlaced low high ps → HasRoomAtEach quota h b ps cs logs → HasRoomAtEach quota h b (map (less n) ps) (drop n cs) logs
rooms_less quota h b n low high [] cs logs le p room = tt
rooms_less quota h b n low high (x ∷ ps) cs [] le p room = tt
rooms_less quota h b n low high (x ∷ ps) cs (e ∷ es) le p room =
    (omega (arith, room.0), omega (arith, room.1, noted_bytes-middle n x cs (omega (arith, p.0))), rooms_less quota h b n x high ps cs es (omega (arith, p.0)) p.1 room.2)

copies_less : (live : Live) (n low high : ℕ) (ps : List ℕ) (cs : List Change) (logs : List LogEntry) → n ≤ low → ArePlaced low high ps → AreCopies live cs ps logs → AreCopies live (drop n cs) (map (less n) ps) logs
copies_less live n low high [] cs [] le p copies = tt
copies_less live n low high [] cs (e ∷ es) le p copies = absurd copies
copies_less live n low high (x ∷ ps) cs [] le p copies = absurd copies
copies_less live n low high (x ∷ ps) cs (e ∷ es) le p copies = (
  copies.0 ∙ ap (λ (l : List Change). patched l live) (sym (tail_same n x cs (omega (arith, p.0)))),
  copies_less live n x high ps cs es (omega (arith, p.0)) p.1 copies.1,
)

module _ (quota : ℕ) (entries : List Entry) (places : List ℕ) (hs : List Head) (bytes words : List ℕ) (h b : ℕ) (logs : List LogEntry) (n : ℕ)
    (u : IsUndoLog quota entries places hs bytes words h b logs) (placed : ArePlaced n (length hs) places) where
  abbrev cs : List Change
  cs = changes_of hs bytes

  abbrev left : List Change
  left = changes_of (drop n hs) (drop (bytes_in (take n hs)) bytes)

  pub drain_is : left ≡ drop n cs
  drain_is = changes_of-drop n hs bytes

  same : since (map (less n) places) (drop n cs) ≡ since places cs
  same = since_less n (length hs) places cs placed (λ empty. ap (λ (l : List Head). changes_of l bytes) (u.unlogged empty))

  since_same : since (map (less n) places) left ≡ since places cs
  since_same = ap (drop (last_place (map (less n) places))) drain_is ∙ same

  pub undo_log-drain : IsUndoLog quota entries (map (less n) places) (drop n hs) (drop (bytes_in (take n hs)) bytes) words h b logs
  undo_log-drain = record {
    most = u.most;
    entries_are = u.entries_are;
    each_placed = length-map places (less n) ∙ u.each_placed;
    list = u.list;
    within = u.within;
    whole = omega (arith, u.whole, bytes_in-split n hs, length-drop (bytes_in (take n hs)) bytes);
    keys = keys-drop quota n hs u.keys;
    placed = subst (λ k. ArePlaced 0 k (map (less n) places)) (sym (length-drop n hs)) (placed_lower (n - n) 0 (length hs - n) (map (less n) places) (omega arith) (placed_less n n (length hs) places (omega arith) placed));
    unlogged = λ empty. ap (drop n) (u.unlogged (sym (length-map places (less n)) ∙ empty)) ∙ drop-nil n;
    word_count = u.word_count;
    stamps = λ k is. u.stamps k is ∙ ap (is_noted k) (sym since_same);
    room = record {
      heads_left = λ some.
          omega (arith, u.room.heads_left (omega (arith, some, length-map places (less n))), ap length drain_is, length-drop n cs, ap (λ (l : List Change). pending one l quota) since_same);
      bytes_left = λ e last.
          omega (arith, u.room.bytes_left e last, ap noted_bytes drain_is, noted_bytes-drop n cs, ap (λ (l : List Change). pending (length_at e.copy) l quota) since_same);
      at_each = subst (λ (l : List Change). HasRoomAtEach quota h b (map (less n) places) l logs) (sym drain_is) (rooms_less quota h b n n (length hs) places cs logs (omega arith) placed u.room.at_each);
    };
  }

  pub belongs-drain : (v : Version) (limit q : ℕ) (s : HeapState) → Belongs v limit s (record { logs = logs; places = places; changes = cs; quota = q })
      → Belongs v limit s (record { logs = logs; places = map (less n) places; changes = drop n cs; quota = q })
  belongs-drain v limit q s belongs = record {
    quota_same = belongs.quota_same;
    copies = copies_less s.live n n (length hs) places cs logs (omega arith) placed belongs.copies;
    noted = λ some k touched. ap (is_noted k) same ∙ belongs.noted (omega (arith, some, length-map places (less n))) k touched;
    fitting = fitting-drop v n cs belongs.fitting;
  }
