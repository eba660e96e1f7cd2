-- A log that is taken, and one that is refused.
use Rattle.std.specs.Int.{bit_at}
use Rattle.std.proofs.Common.{◌/◌, ◌%◌, replicate, get_or, ◌≡◌, ℕ, ◌+◌, ◌*◌, ◌≤◌, ◌⊎◌, inl, inr, Bool, true, false, cond, nat_le, ◌==◌, Option, Some, None, List, [], ◌∷◌, ◌++◌, length, take, drop, refl, sym, ap, subst, ◌∙◌, arith, length-append}
use Rattle.std.specs.FinSet as set
use Rattle.std.specs.FinSet.{contains-empty}
use Rattle.std.specs.Ordering.{nat_cmp}
use Rattle.std.proofs.lemmas.Bool.{cond_both, leb-false, eqb-false, true≢false}
use Rattle.std.proofs.lemmas.Option.{same_Some, none-some}
use Rattle.std.proofs.lemmas.List.{map-append}
use Rattle.std.proofs.Math.Seq.{take-length, drop-length}
use Rattle.dym_base.specs.Heaps.{Live, HeapState, held}
use Rattle.dym_base.specs.Objects.{LogEntry, ObjectState, ObjectAnswer, newest, next_depth, new_entry, kind_of, record_of, unchanged, log_more, log_after, log}
use Rattle.dym_base.specs.declared.command.Version.{Version}
use Rattle.dym_base.specs.declared.command.Kind.{Kind}
use Rattle.dym_base.specs.declared.command.Kind.TheVariants.{Full, Inc}
use Rattle.dym_base.specs.declared.reply.Reply.TheVariants as reply
use Rattle.dym_base.specs.declared.reply.Refusal.{Refusal}
use Rattle.dym_base.specs.declared.reply.Refusal.TheVariants.{NotAfter, LogsFull}
use Rattle.dym_base.proofs.Runs.{NewestBefore, all_push, all_newest, follows_push}
use Rattle.dym_undo.specs.Answers.{log_refusal, refusal_after, refusal_if_full}
use Rattle.dym_undo.specs.Changes.{Change, patched, is_noted, noted_bytes}
use Rattle.dym_undo.specs.Heads.{changes_of, bytes_in}
use Rattle.dym_undo.specs.Keys.{IsKey, is_stamped}
use Rattle.dym_undo.specs.Passes.{IsUnstamped}
use Rattle.dym_undo.specs.Rooms.{pending, one, all_bytes, all_handles, HasRoomAtEach}
use Rattle.dym_undo.specs.UndoLogs.{UndoMeaning, Belongs, AreCopies, ArePlaced, IsUndoLog, last_place, since, entry_of}
use Rattle.dym_undo.specs.declared.entry.Entry.{Entry}
use Rattle.dym_undo.specs.declared.head.Head.{Head}
use Rattle.dym_undo.specs.Passes.{is_headed}
use Rattle.dym_undo.specs.Answers.{IsLoggedAs}
use Rattle.dym_undo.proofs.Decoding.{length-changes_of, changes_of-drop, is_noted-changes_of}
use Rattle.dym_undo.proofs.Keeping.{rooms-more}
use Rattle.dym_undo.proofs.Pendings.{pending-all}
use Rattle.dym_undo.proofs.Places.{newest_push}

-- the answer of a log that is taken
abbrev pub taken : Version → ObjectState → ℕ → Kind → ObjectAnswer
taken v s t kind = record {
  object = record { heap = record { live = s.heap.live; touched = set.empty }; logs = s.logs ++ new_entry s t kind ∷ [] };
  reply = reply.Logged (kind_of (new_entry s t kind)) (length (record_of v (new_entry s t kind)));
}

refused_one : (b : Bool) (first why : Refusal) (rest : Option Refusal) (s : ObjectState) (other : ObjectAnswer) → (rest ≡ Some why → other ≡ unchanged s (reply.Refused why)) → cond b (Some first) rest ≡ Some why → cond b (unchanged s (reply.Refused first)) other ≡ unchanged s (reply.Refused why)
refused_one true first why rest s other next is = ap (λ w. unchanged s (reply.Refused w)) (same_Some first why is)
refused_one false first why rest s other next is = next is

refused_full : (v : Version) (s : ObjectState) (t : ℕ) (kind : Kind) (why : Refusal) → refusal_if_full s.logs ≡ Some why → log_more v s t kind ≡ unchanged s (reply.Refused why)
refused_full v s t kind why is = refused_one (length s.logs == 256) LogsFull why None s (taken v s t kind) (λ none. absurd (none-some why none)) is

refused_after : (v : Version) (s : ObjectState) (t : ℕ) (kind : Kind) (why : Refusal) (o : Option LogEntry) → refusal_after t s.logs o ≡ Some why → log_after v s t kind o ≡ unchanged s (reply.Refused why)
refused_after v s t kind why None is = refused_full v s t kind why is
refused_after v s t kind why (Some e) is = refused_one (nat_le t e.time) (NotAfter e.time) why (refusal_if_full s.logs) s (log_more v s t kind) (refused_full v s t kind why) is

pub refused_is : (v : Version) (s : ObjectState) (t : ℕ) (kind : Kind) (why : Refusal) → log_refusal t s.logs ≡ Some why → log v s t kind ≡ unchanged s (reply.Refused why)
refused_is v s t kind why is = refused_after v s t kind why (newest s.logs) is

not_first : (b : Bool) (first : Refusal) (rest : Option Refusal) → cond b (Some first) rest ≡ None → (b ≡ false) × (rest ≡ None)
not_first true first rest is = absurd (none-some first (sym is))
not_first false first rest is = (refl, is)

taken_full : (v : Version) (s : ObjectState) (t : ℕ) (kind : Kind) → refusal_if_full s.logs ≡ None → log_more v s t kind ≡ taken v s t kind
taken_full v s t kind is = ap (λ b. cond b (unchanged s (reply.Refused LogsFull)) (taken v s t kind)) (not_first (length s.logs == 256) LogsFull None is).0

taken_after : (v : Version) (s : ObjectState) (t : ℕ) (kind : Kind) (o : Option LogEntry) → refusal_after t s.logs o ≡ None → log_after v s t kind o ≡ taken v s t kind
taken_after v s t kind None is = taken_full v s t kind is
taken_after v s t kind (Some e) is =
    let both = not_first (nat_le t e.time) (NotAfter e.time) (refusal_if_full s.logs) is in
    ap (λ b. cond b (unchanged s (reply.Refused (NotAfter e.time))) (log_more v s t kind)) both.0 ∙ taken_full v s t kind both.1

pub taken_is : (v : Version) (s : ObjectState) (t : ℕ) (kind : Kind) → log_refusal t s.logs ≡ None → log v s t kind ≡ taken v s t kind
taken_is v s t kind is = taken_after v s t kind (newest s.logs) is

room_by : (t : ℕ) (logs : List LogEntry) (o : Option LogEntry) → refusal_after t logs o ≡ None → length logs ≡ 256 → ⊥
room_by t logs None is = eqb-false (length logs) 256 (not_first (length logs == 256) LogsFull None is).0
room_by t logs (Some e) is = eqb-false (length logs) 256 (not_first (length logs == 256) LogsFull None (not_first (nat_le t e.time) (NotAfter e.time) (refusal_if_full logs) is).1).0

pub has_room : (t : ℕ) (logs : List LogEntry) → log_refusal t logs ≡ None → length logs ≡ 256 → ⊥
has_room t logs is = room_by t logs (newest logs) is

depth_next : (kind : Kind) (e : LogEntry) → (next_depth kind (Some e) ≡ 0) ⊎ (next_depth kind (Some e) ≡ e.depth + 1)
depth_next Full e = inl refl
depth_next Inc e = cond_both (e.depth == 31) 0 (e.depth + 1) (λ n. (n ≡ 0) ⊎ (n ≡ e.depth + 1)) (λ _. inl refl) (λ _. inr refl)

before_by : (s : ObjectState) (t : ℕ) (kind : Kind) (o : Option LogEntry) → newest s.logs ≡ o → refusal_after t s.logs o ≡ None → NewestBefore o (new_entry s t kind)
before_by s t kind None last is = tt
before_by s t kind (Some e) last is = (
  leb-false t e.time (not_first (nat_le t e.time) (NotAfter e.time) (refusal_if_full s.logs) is).0,
  subst (λ o. (next_depth kind o ≡ 0) ⊎ (next_depth kind o ≡ e.depth + 1)) (sym last) (depth_next kind e),
)

depth_small : (kind : Kind) (o : Option LogEntry) → ((e : LogEntry) → o ≡ Some e → e.depth ≤ 31) → next_depth kind o ≤ 31
depth_small Full o small = omega arith
depth_small Inc None small = omega arith
depth_small Inc (Some e) small =
    let low : e.depth ≤ 31 = small e refl in
    cond_both (e.depth == 31) 0 (e.depth + 1) (λ n. n ≤ 31) (λ _. omega arith) (λ less. (let apart = eqb-false e.depth 31 less in omega (arith, low, apart)))

-- ---- the fields with a log more

pub last_push : (ps : List ℕ) (p : ℕ) → last_place (ps ++ p ∷ []) ≡ p
last_push [] p = refl
last_push (x ∷ []) p = refl
last_push (x ∷ y ∷ ps) p = last_push (y ∷ ps) p

placed_push : (low high : ℕ) (ps : List ℕ) → ArePlaced low high ps → ArePlaced low high (ps ++ high ∷ [])
placed_push low high [] p = (p, omega arith)
placed_push low high (x ∷ ps) p = (p.0, placed_push x high ps p.1)

since_none : (ps : List ℕ) (cs : List Change) → since (ps ++ length cs ∷ []) cs ≡ []
since_none ps cs = ap (λ n. drop n cs) (last_push ps (length cs)) ∙ drop-length cs

rooms_push : (quota h b : ℕ) (ps : List ℕ) (cs : List Change) (logs : List LogEntry) (p : ℕ) (e : LogEntry) → length ps ≡ length logs → p + all_handles quota ≤ h → noted_bytes (take p cs) + all_bytes e.copy quota ≤ b → HasRoomAtEach quota h b ps cs logs → HasRoomAtEach quota h b (ps ++ p ∷ []) cs (logs ++ e ∷ [])
rooms_push quota h b [] cs [] p e same i j room = (i, j, tt)
rooms_push quota h b [] cs (x ∷ es) p e same i j room = absurd (omega arith)
rooms_push quota h b (q ∷ ps) cs [] p e same i j room = absurd (omega arith)
rooms_push quota h b (q ∷ ps) cs (x ∷ es) p e same i j room = (room.0, room.1, rooms_push quota h b ps cs es p e (omega arith) i j room.2)

pub undo_log-log : (quota : ℕ) (entries : List Entry) (places : List ℕ) (hs : List Head) (bytes words new_words : List ℕ) (h b heads room_bytes : ℕ) (s : HeapState) (logs : List LogEntry) (t : ℕ) (kind : Kind)
    → IsUndoLog quota entries places hs bytes words h b logs → log_refusal t logs ≡ None → held s.live ≤ quota → length new_words ≡ length words → IsUnstamped new_words
    → h ≤ heads → b ≤ room_bytes → length hs + all_handles quota ≤ heads → length bytes + all_bytes s.live quota ≤ room_bytes
    → IsUndoLog quota (entries ++ entry_of (new_entry (record { heap = s; logs = logs }) t kind) ∷ []) (places ++ length hs ∷ []) hs bytes new_words heads room_bytes (logs ++ new_entry (record { heap = s; logs = logs }) t kind ∷ [])
undo_log-log quota entries places hs bytes words new_words h b heads room_bytes s logs t kind u free within_quota same_words unstamped i j enough long =
    let o : ObjectState = record { heap = s; logs = logs } in
    let e : LogEntry = new_entry o t kind in
    let cs : List Change = changes_of hs bytes in
    let room = has_room t logs free in
    let before : NewestBefore (newest logs) e = before_by o t kind (newest logs) refl free in
    let Small : LogEntry → Type 0 = λ f. f.depth ≤ 31 in
    let small : e.depth ≤ 31 = depth_small kind (newest logs) (λ f is. all_newest Small logs f u.list.1 is) in
    let count : length cs ≡ length hs = length-changes_of hs bytes in
    let none : since (places ++ length hs ∷ []) cs ≡ [] = ap (λ n. since (places ++ n ∷ []) cs) (sym count) ∙ since_none places cs in
    let noted : noted_bytes cs ≡ length bytes = Rattle.dym_undo.proofs.Decoding.noted_bytes-changes_of hs bytes (omega (arith, u.whole)) ∙ u.whole in
    let limit : length new_words / 64 ≡ quota = omega (arith, same_words, u.word_count) in
    record {
      most = u.most;
      entries_are = ap (λ (l : List Entry). l ++ entry_of e ∷ []) u.entries_are ∙ sym (map-append entry_of logs (e ∷ []));
      each_placed = length-append places (length hs ∷ []) ∙ ap (λ n. n + 1) u.each_placed ∙ sym (length-append logs (e ∷ []));
      list = (rw length-append (omega (arith, room, u.list.0)), all_push Small logs e u.list.1 small, follows_push logs e u.list.2 before);
      within = all_push (λ (f : LogEntry). held f.copy ≤ quota) logs e u.within within_quota;
      whole = u.whole;
      keys = u.keys;
      placed = placed_push 0 (length hs) places u.placed;
      unlogged = λ empty. absurd (omega (arith, empty, length-append places (length hs ∷ [])));
      word_count = same_words ∙ u.word_count;
      stamps = λ k is. unstamped k (subst (λ n. IsKey n k) (sym limit) is) ∙ sym (ap (is_noted k) none);
      room = record {
        heads_left = λ _. omega (arith, enough, count, ap (λ (l : List Change). pending one l quota) none, pending-all quota);
        bytes_left = λ f last.
            let same : e ≡ f = same_Some e f (sym (newest_push logs e) ∙ last) in
            subst (λ (x : LogEntry). noted_bytes cs + pending (Rattle.dym_undo.specs.Rooms.length_at x.copy) (since (places ++ length hs ∷ []) cs) quota ≤ room_bytes) same
            (omega (arith, noted, long, ap (λ (l : List Change). pending (Rattle.dym_undo.specs.Rooms.length_at s.live) l quota) none));
        at_each = rooms_push quota heads room_bytes places cs logs (length hs) e u.each_placed enough
            (omega (arith, noted, long, ap noted_bytes (ap (λ n. take n cs) (sym count) ∙ take-length cs)))
            (rooms-more quota h b heads room_bytes places cs logs i j u.room.at_each);
      };
    }

copies_push : (live : Live) (ps : List ℕ) (cs : List Change) (logs : List LogEntry) (e : LogEntry) → e.copy ≡ live → AreCopies live cs ps logs → AreCopies live cs (ps ++ length cs ∷ []) (logs ++ e ∷ [])
copies_push live [] cs [] e is copies = (is ∙ sym (ap (λ (l : List Change). patched l live) (drop-length cs)), tt)
copies_push live [] cs (x ∷ es) e is copies = absurd copies
copies_push live (p ∷ ps) cs [] e is copies = absurd copies
copies_push live (p ∷ ps) cs (x ∷ es) e is copies = (copies.0, copies_push live ps cs es e is copies.1)

pub belongs-log : (v : Version) (quota : ℕ) (s : HeapState) (logs : List LogEntry) (places : List ℕ) (cs : List Change) (q n : ℕ) (e : LogEntry) → e.copy ≡ s.live → n ≡ length cs → Belongs v quota s (record { logs = logs; places = places; changes = cs; quota = q })
    → Belongs v quota (record { live = s.live; touched = set.empty }) (record { logs = logs ++ e ∷ []; places = places ++ n ∷ []; changes = cs; quota = q })
belongs-log v quota s logs places cs q n e is count b = record {
  quota_same = b.quota_same;
  copies = subst (λ m. AreCopies s.live cs (places ++ m ∷ []) (logs ++ e ∷ [])) (sym count) (copies_push s.live places cs logs e is b.copies);
  noted = λ _ k touched. absurd (true≢false (sym touched ∙ contains-empty nat_cmp k));
  fitting = b.fitting;
}

-- the fields hold more room
pub undo_log-room : (quota : ℕ) (entries : List Entry) (places : List ℕ) (hs : List Head) (bytes words : List ℕ) (h b heads room_bytes : ℕ) (logs : List LogEntry)
    → IsUndoLog quota entries places hs bytes words h b logs → h ≤ heads → b ≤ room_bytes → IsUndoLog quota entries places hs bytes words heads room_bytes logs
undo_log-room quota entries places hs bytes words h b heads room_bytes logs u i j = record {
  most = u.most;
  entries_are = u.entries_are;
  each_placed = u.each_placed;
  list = u.list;
  within = u.within;
  whole = u.whole;
  keys = u.keys;
  placed = u.placed;
  unlogged = u.unlogged;
  word_count = u.word_count;
  stamps = u.stamps;
  room = record {
    heads_left = λ some. omega (arith, u.room.heads_left some);
    bytes_left = λ e last. omega (arith, u.room.bytes_left e last);
    at_each = rooms-more quota h b heads room_bytes places (changes_of hs bytes) logs i j u.room.at_each;
  };
}

-- what is noted since the newest log, by heads
pub since_headed : (k : ℕ) (places : List ℕ) (hs : List Head) (bytes : List ℕ) → is_noted k (since places (changes_of hs bytes)) ≡ is_headed k (drop (last_place places) hs)
since_headed k places hs bytes =
    ap (is_noted k) (sym (changes_of-drop (last_place places) hs bytes))
    ∙ is_noted-changes_of k (drop (last_place places) hs) (drop (bytes_in (take (last_place places) hs)) bytes)

pub logged_reply : (v : Version) (s : HeapState) (logs : List LogEntry) (t : ℕ) (want : Kind) → log_refusal t logs ≡ None → IsLoggedAs (kind_of (new_entry (record { heap = s; logs = logs }) t want)) (log v (record { heap = s; logs = logs }) t want).reply
logged_reply v s logs t want free =
    (length (record_of v (new_entry (record { heap = s; logs = logs }) t want)), ap (λ (a : ObjectAnswer). a.reply) (taken_is v (record { heap = s; logs = logs }) t want free))

-- the same fields
pub fields_same : (quota : ℕ) (E E' : List Entry) (P P' : List ℕ) (H H' : List Head) (B B' W W' : List ℕ) (h b : ℕ) (L L' : List LogEntry) → E' ≡ E → P' ≡ P → H' ≡ H → B' ≡ B → W' ≡ W → L' ≡ L → IsUndoLog quota E P H B W h b L → IsUndoLog quota E' P' H' B' W' h b L'
fields_same quota E E' P P' H H' B B' W W' h b L L' e p hs bs ws ls u =
    subst (λ x. IsUndoLog quota x P' H' B' W' h b L') (sym e)
    (subst (λ x. IsUndoLog quota E x H' B' W' h b L') (sym p)
    (subst (λ x. IsUndoLog quota E P x B' W' h b L') (sym hs)
    (subst (λ x. IsUndoLog quota E P H x W' h b L') (sym bs)
    (subst (λ x. IsUndoLog quota E P H B x h b L') (sym ws)
    (subst (λ x. IsUndoLog quota E P H B W h b x) (sym ls) u)))))

pub meaning_same : (L L' : List LogEntry) (P P' : List ℕ) (C C' : List Change) (q : ℕ) → L' ≡ L → P' ≡ P → C' ≡ C → ◌≡◌ {A = UndoMeaning} (record { logs = L'; places = P'; changes = C'; quota = q }) (record { logs = L; places = P; changes = C; quota = q })
meaning_same L L' P P' C C' q l p c = λ i. record { logs = l i; places = p i; changes = c i; quota = q }

no_stamp : (n i j : ℕ) → bit_at (get_or (replicate n 0) i 0) j ≡ 0
no_stamp n i j =
    elim (Rattle.std.proofs.lemmas.Bool.cases_lt i n) as (λ _. bit_at (get_or (replicate n 0) i 0) j ≡ 0) [
      | inl below ↦ ap (λ w. bit_at w j) (Rattle.std.proofs.lemmas.List.get_or-replicate n i 0 0 below) ∙ Rattle.std.proofs.lemmas.Nat.Bits.bit_at-zero j
      | inr past ↦ ap (λ w. bit_at w j) (Rattle.std.proofs.lemmas.List.get_or_past (replicate n 0) i 0 (omega (arith, Rattle.std.proofs.lemmas.List.length-replicate {A = ℕ} n 0))) ∙ Rattle.std.proofs.lemmas.Nat.Bits.bit_at-zero j
    ]

-- words that are zero stamp nothing
pub none_stamped : (n k : ℕ) → is_stamped (replicate n 0) k ≡ false
unfolding is_stamped
none_stamped n k = ap (λ m. m == 1) (no_stamp n (Rattle.dym_undo.specs.Keys.stamp_bit k / 64) (Rattle.dym_undo.specs.Keys.stamp_bit k % 64))

-- the fields of an undo log with no log
pub undo_log-open : (quota h b : ℕ) (words : List ℕ) → quota ≤ 1024 → words ≡ replicate (quota * 64) 0 → IsUndoLog quota [] [] [] [] words h b []
undo_log-open quota h b words most are = record {
  most = most;
  entries_are = refl;
  each_placed = refl;
  list = (omega arith, tt, tt);
  within = tt;
  whole = refl;
  keys = tt;
  placed = omega arith;
  unlogged = λ _. refl;
  word_count = ap length are ∙ Rattle.std.proofs.lemmas.List.length-replicate {A = ℕ} (quota * 64) 0;
  stamps = λ k is. ap (λ (w : List ℕ). is_stamped w k) are ∙ none_stamped (quota * 64) k;
  room = record { heads_left = λ some. absurd (omega arith); bytes_left = λ e last. absurd (Rattle.std.proofs.lemmas.Option.none-some e last); at_each = tt };
}
