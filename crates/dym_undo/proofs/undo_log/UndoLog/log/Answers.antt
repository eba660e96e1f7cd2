use Rattle.std.proofs.Common.{◌≡◌, ℕ, ◌/◌, ◌<◌, ◌≤◌, List, [], ◌∷◌, ◌++◌, length, map, drop, None, option_map, refl, sym, ap, ap₂, subst, ◌∙◌, arith}
use Rattle.std.specs.FinSet as set
use Rattle.dym_base.specs.Heaps.{HeapState}
use Rattle.dym_base.specs.Objects.{LogEntry, ObjectAnswer, newest, next_depth, new_entry, kind_of}
use Rattle.dym_base.specs.declared.command.Version.{Version}
use Rattle.dym_base.specs.declared.command.Kind.{Kind}
use Rattle.dym_base.proofs.Runs.{all_newest}
use Rattle.dym_undo.specs.Answers.{log_refusal}
use Rattle.dym_undo.specs.Changes.{Change}
use Rattle.dym_undo.specs.Heads.{changes_of}
use Rattle.dym_undo.specs.Passes.{AreHeadKeys}
use Rattle.dym_undo.specs.UndoLogs.{UndoMeaning, Belongs, entry_of, object_of, last_place}
use Rattle.dym_undo.specs.Keys.{IsKey, is_stamped}
use Rattle.dym_undo.specs.Passes.{is_headed}
use Rattle.std.proofs.Common.{if◌then◌else◌, ◌==◌}
use Rattle.dym_base.specs.Objects.{found_touched}
use Rattle.dym_base.specs.declared.command.Kind.TheVariants.{Full, Inc}
use Rattle.dym_base.specs.declared.reply.Reply.TheVariants as reply
use Rattle.dym_undo.specs.declared.entry.Entry.{Entry}
use Rattle.dym_undo.specs.declared.head.Head.{Head}
use Rattle.dym_undo.proofs.Decoding.{placed_last, length-changes_of}
use Rattle.dym_undo.proofs.Places.{count_same}
use Rattle.dym_undo.proofs.Logging.{refused_is, taken_is, logged_reply, undo_log-log, undo_log-room, since_headed, belongs-log, fields_same, meaning_same}
use Rattle.dym_undo.proofs.Keeping.{whole_slice}
use Rattle.dym_undo.proofs.HeldBytes.{all_bytes-held}
use Rattle.dym_undo.proofs.undo_log.UndoLog.log.Given as given
use Rattle.dym_undo.proofs.undo_log.UndoLog.log.Goals.{After-refusal_of, After-depth_of_next-depth}
use Rattle.dym_undo.proofs.undo_log.UndoLog.log.Goals as goal

module _ (g : given.Over) (c : After-refusal_of g) where
  abbrev s : HeapState
  s = g.H.UndoHeap.state c.args.heap.now

  abbrev v : Version
  v = g.H.UndoHeap.version_of c.args.heap.now

  abbrev logs : List LogEntry
  logs = c.self.inside.ghost_logs.logs

  entries : c.deref.result.now ≡ map entry_of logs
  entries = c.deref.ensures.value ∙ c.self.invariant.entries_are

  last : c.newest_of-newest.result ≡ option_map entry_of (newest logs)
  last = c.newest_of-newest.ensures logs entries

  refusal : c.refusal_of.result ≡ log_refusal c.args.time logs
  refusal = c.refusal_of.ensures logs last (c.len.ensures ∙ sym c.deref.ensures.len ∙ count_same logs c.deref.result.now entries)

  now : log_refusal c.args.time logs ≡ log_refusal c.args.time c.args.self.now.logs
  now = ap (λ (x : UndoMeaning). log_refusal c.args.time x.logs) c.self.view_is

pub returns-in-Some-clause-answer : goal.returns-in-Some-clause-answer
returns-in-Some-clause-answer g c =
    let a = (goal.at.returns-in-Some-clause-answer g c).After-refusal_of in
    ap (λ (x : ObjectAnswer). x.reply) (refused_is (v g a) (object_of (s g a) c.args.self.now) c.args.time c.args.want c.in-Some.why (sym (now g a) ∙ sym (refusal g a) ∙ c.in-Some.is))

pub returns-in-Some-clause-rest : goal.returns-in-Some-clause-rest
returns-in-Some-clause-rest g c = g.met.H.UndoHeap.rest_itself c.args.heap.now

pub returns-in_default-make_room-clause-rest : goal.returns-in_default-make_room-clause-rest
returns-in_default-make_room-clause-rest g c = g.met.H.UndoHeap.rest_itself c.args.heap.now

pub returns-in_default-make_room-clause-answer : goal.returns-in_default-make_room-clause-answer
returns-in_default-make_room-clause-answer g c =
    let a = (goal.at.returns-in_default-make_room-clause-answer g c).After-refusal_of in
    (kind_of (new_entry (object_of (s g a) c.args.self.now) c.args.time c.args.want), logged_reply (v g a) (s g a) c.args.self.now.logs c.args.time c.args.want (sym (now g a) ∙ sym (refusal g a) ∙ c.in_default.is))

pub returns-in_default-make_room-clause-unchanged : goal.returns-in_default-make_room-clause-unchanged
returns-in_default-make_room-clause-unchanged g c =
    (meaning_same _ _ _ _ _ _ c.self.inside.quota refl c.make_room.ensures.places (ap₂ changes_of c.make_room.ensures.heads c.make_room.ensures.bytes) ∙ c.self.view_is, refl)

pub returns-in_default-make_room-clause-belongs : goal.returns-in_default-make_room-clause-belongs
returns-in_default-make_room-clause-belongs g c =
    subst (Belongs (g.H.UndoHeap.version_of c.args.heap.now) (g.H.UndoHeap.quota_of c.args.heap.now) (g.H.UndoHeap.state c.args.heap.now))
    (sym (meaning_same _ _ _ _ _ _ c.self.inside.quota refl c.make_room.ensures.places (ap₂ changes_of c.make_room.ensures.heads c.make_room.ensures.bytes) ∙ c.self.view_is)) c.requires.belongs

pub invariant_of-self : goal.invariant_of-self
invariant_of-self g c =
    fields_same c.self.inside.quota _ _ _ _ _ _ _ _ _ _ _ _ _ _ c.make_room.ensures.entries c.make_room.ensures.places c.make_room.ensures.heads c.make_room.ensures.bytes refl refl
    (undo_log-room c.self.inside.quota c.self.inside.entries.items c.self.inside.places.items c.self.inside.heads.items c.self.inside.bytes.items c.self.inside.words.items _ _ _ _ c.self.inside.ghost_logs.logs c.self.invariant c.make_room.ensures.head_room c.make_room.ensures.byte_room)

pub begin_interval-requires-clause-keys : goal.begin_interval-requires-clause-keys
begin_interval-requires-clause-keys g c =
    let limit : length c.deref_mut.result.now / 64 ≡ c.self.inside.quota = omega (arith, ap length c.deref_mut.ensures.value, c.self.invariant.word_count) in
    subst (AreHeadKeys (length c.deref_mut.result.now / 64)) (sym (c.deref-2.ensures.value ∙ c.make_room.ensures.heads)) (subst (λ n. AreHeadKeys n c.self.inside.heads.items) (sym limit) c.self.invariant.keys)

pub begin_interval-requires-clause-within : goal.begin_interval-requires-clause-within
begin_interval-requires-clause-within g c =
    omega (arith, placed_last 0 (length c.self.inside.heads.items) c.self.inside.places.items c.self.invariant.placed, ap last_place (c.deref-3.ensures.value ∙ c.make_room.ensures.places), ap length (c.deref-2.ensures.value ∙ c.make_room.ensures.heads))

pub begin_interval-requires-clause-unlogged : goal.begin_interval-requires-clause-unlogged
begin_interval-requires-clause-unlogged g c none =
    c.deref-2.ensures.value ∙ c.make_room.ensures.heads ∙ c.self.invariant.unlogged (sym (ap length (c.deref-3.ensures.value ∙ c.make_room.ensures.places)) ∙ none)

pub begin_interval-requires-clause-stamps : goal.begin_interval-requires-clause-stamps
begin_interval-requires-clause-stamps g c k is =
    let limit : length c.deref_mut.result.now / 64 ≡ c.self.inside.quota = omega (arith, ap length c.deref_mut.ensures.value, c.self.invariant.word_count) in
    ap (λ (w : List ℕ). is_stamped w k) c.deref_mut.ensures.value
    ∙ c.self.invariant.stamps k (subst (λ n. IsKey n k) limit is)
    ∙ since_headed k c.self.inside.places.items c.self.inside.heads.items c.self.inside.bytes.items
    ∙ ap₂ (λ (ps : List ℕ) (l : List Head). is_headed k (drop (last_place ps) l)) (sym (c.deref-3.ensures.value ∙ c.make_room.ensures.places)) (sym (c.deref-2.ensures.value ∙ c.make_room.ensures.heads))

pub begin_interval-requires-clause-noted : goal.begin_interval-requires-clause-noted
begin_interval-requires-clause-noted g c some k touched =
    let B = subst (Belongs (g.H.UndoHeap.version_of c.args.heap.now) (g.H.UndoHeap.quota_of c.args.heap.now) (g.H.UndoHeap.state c.args.heap.now)) (sym c.self.view_is) c.requires.belongs in
    ap₂ (λ (ps : List ℕ) (l : List Head). is_headed k (drop (last_place ps) l)) (c.deref-3.ensures.value ∙ c.make_room.ensures.places) (c.deref-2.ensures.value ∙ c.make_room.ensures.heads)
    ∙ sym (since_headed k c.self.inside.places.items c.self.inside.heads.items c.self.inside.bytes.items)
    ∙ B.noted (subst (λ (ps : List ℕ). 0 < length ps) (c.deref-3.ensures.value ∙ c.make_room.ensures.places) some) k touched

module _ (g : given.Over) (c : After-depth_of_next-depth g) where
  abbrev first : After-refusal_of g
  first = (goal.at.After-depth_of_next-depth g c).After-refusal_of

  free : log_refusal c.args.time (logs g first) ≡ None
  free = sym (refusal g first) ∙ c.in_default.is

  depth_is : c.depth_of_next-depth.result ≡ next_depth c.args.want (newest (logs g first))
  depth_is = c.depth_of_next-depth.ensures (newest (logs g first)) (last g first) (λ e is. all_newest (λ (f : LogEntry). f.depth ≤ 31) (logs g first) e c.self.invariant.list.1 is)

pub invariant_of-self-2 : goal.invariant_of-self-2
invariant_of-self-2 g c =
    let d = (goal.at.invariant_of-self-2 g c).After-depth_of_next-depth in
    let o = first g d in
    let entry : ℕ → LogEntry = λ n. record { time = c.args.time; depth = n; copy = (s g o).live; found = found_touched n (s g o).touched } in
    let B = subst (Belongs (v g o) (g.H.UndoHeap.quota_of c.args.heap.now) (s g o)) (sym c.self.view_is) c.requires.belongs in
    let same : c.self.inside.quota ≡ g.H.UndoHeap.quota_of c.args.heap.now = B.quota_same in
    let count : c.len-2.result ≡ length c.self.inside.heads.items = omega (arith, c.len-2.ensures, ap length c.make_room.ensures.heads) in
    fields_same c.self.inside.quota _ _ _ _ _ _ _ _ _ _ _ _ _ _
    (c.push_reserved.ensures.items ∙ ap₂ (λ (l : List Entry) (n : ℕ). l ++ record { time = c.args.time; depth = n } ∷ []) c.make_room.ensures.entries (depth_is g d))
    (c.push_reserved-2.ensures.items ∙ ap₂ (λ (l : List ℕ) (n : ℕ). l ++ n ∷ []) c.make_room.ensures.places count)
    c.make_room.ensures.heads c.make_room.ensures.bytes
    (whole_slice c.self.inside.words.len c.begin_interval.new.words c.self.inside.words.items (c.begin_interval.auto.words ∙ ap length c.deref_mut.ensures.value) (omega arith))
    (c.logged.ensures ∙ ap (λ n. logs g o ++ entry n ∷ []) (depth_is g d))
    (undo_log-log c.self.inside.quota c.self.inside.entries.items c.self.inside.places.items c.self.inside.heads.items c.self.inside.bytes.items c.self.inside.words.items c.begin_interval.new.words _ _ _ _ (s g o) (logs g o) c.args.time c.args.want
    c.self.invariant (free g d) (omega (arith, (g.met.H.UndoHeap.sound_is_within c.args.heap.now c.requires.sound).within, same)) (c.begin_interval.auto.words ∙ ap length c.deref_mut.ensures.value) c.begin_interval.ensures.unstamped
    c.make_room.ensures.head_room c.make_room.ensures.byte_room
    (omega (arith, c.in-Ok.ensures.heads_left, ap length c.make_room.ensures.heads))
    (omega (arith, c.in-Ok.ensures.bytes_left, ap length c.make_room.ensures.bytes, c.held.ensures, all_bytes-held (v g o) c.self.inside.quota (s g o).live c.self.invariant.most (g.met.H.UndoHeap.sound_is_within c.args.heap.now c.requires.sound).sized)))

pub returns-clause-answer : goal.returns-clause-answer
returns-clause-answer g c =
    let d = (goal.at.returns-clause-answer g c).After-depth_of_next-depth in
    let o = first g d in
    let is = logged_reply (v g o) (s g o) c.args.self.now.logs c.args.time c.args.want (sym (now g o) ∙ free g d) in
    (is.0, is.1 ∙ ap (λ (k : Kind). reply.Logged k is.0) (sym (c.kind_at.ensures ∙ ap (λ n. if n == 0 then Full else Inc) (depth_is g d) ∙ ap (λ (x : UndoMeaning). if next_depth c.args.want (newest x.logs) == 0 then Full else Inc) c.self.view_is)))

pub returns-clause-after : goal.returns-clause-after
returns-clause-after g c =
    let d = (goal.at.returns-clause-after g c).After-depth_of_next-depth in
    let o = first g d in
    let entry : ℕ → LogEntry = λ n. record { time = c.args.time; depth = n; copy = (s g o).live; found = found_touched n (s g o).touched } in
    ap₂ (λ (h : HeapState) (l : List LogEntry). record { heap = h; logs = l }) c.begin_interval.ensures.state
    (c.logged.ensures ∙ ap (λ n. logs g o ++ entry n ∷ []) (depth_is g d))
    ∙ ap (λ (x : UndoMeaning). record { heap = record { live = (s g o).live; touched = set.empty }; logs = x.logs ++ entry (next_depth c.args.want (newest x.logs)) ∷ [] }) c.self.view_is
    ∙ sym (ap (λ (x : ObjectAnswer). x.object) (taken_is (v g o) (object_of (s g o) c.args.self.now) c.args.time c.args.want (sym (now g o) ∙ free g d)))

pub returns-clause-belongs : goal.returns-clause-belongs
returns-clause-belongs g c =
    let d = (goal.at.returns-clause-belongs g c).After-depth_of_next-depth in
    let o = first g d in
    let q : ℕ = g.H.UndoHeap.quota_of c.args.heap.now in
    let B = subst (Belongs (v g o) q (s g o)) (sym c.self.view_is) c.requires.belongs in
    let cs : List Change = changes_of c.self.inside.heads.items c.self.inside.bytes.items in
    let entry : LogEntry = record { time = c.args.time; depth = c.depth_of_next-depth.result; copy = (s g o).live; found = found_touched c.depth_of_next-depth.result (s g o).touched } in
    let count : c.len-2.result ≡ length cs = omega (arith, c.len-2.ensures, ap length c.make_room.ensures.heads, length-changes_of c.self.inside.heads.items c.self.inside.bytes.items) in
    let base = belongs-log (v g o) q (s g o) (logs g o) c.self.inside.places.items cs c.self.inside.quota c.len-2.result entry refl count B in
    let view = meaning_same _ _ _ _ _ _ c.self.inside.quota c.logged.ensures (c.push_reserved-2.ensures.items ∙ ap (λ (l : List ℕ). l ++ c.len-2.result ∷ []) c.make_room.ensures.places) (ap₂ changes_of c.make_room.ensures.heads c.make_room.ensures.bytes) in
    let rest = c.begin_interval.ensures.rest in
    subst (λ (w : Version). Belongs w (g.H.UndoHeap.quota_of c.begin_interval.new.heap) (g.H.UndoHeap.state c.begin_interval.new.heap) (record { logs = c.logged.result.logs; places = c.push_reserved-2.new.self.items; changes = changes_of c.make_room.new.heads.items c.make_room.new.bytes.items; quota = c.self.inside.quota })) (sym (g.met.H.UndoHeap.rest_version _ _ rest))
    (subst (λ n. Belongs (v g o) n (g.H.UndoHeap.state c.begin_interval.new.heap) (record { logs = c.logged.result.logs; places = c.push_reserved-2.new.self.items; changes = changes_of c.make_room.new.heads.items c.make_room.new.bytes.items; quota = c.self.inside.quota })) (sym (g.met.H.UndoHeap.rest_quota _ _ rest))
    (subst (λ (h : HeapState). Belongs (v g o) q h (record { logs = c.logged.result.logs; places = c.push_reserved-2.new.self.items; changes = changes_of c.make_room.new.heads.items c.make_room.new.bytes.items; quota = c.self.inside.quota })) (sym c.begin_interval.ensures.state)
    (subst (Belongs (v g o) q (record { live = (s g o).live; touched = set.empty })) (sym view) base)))
