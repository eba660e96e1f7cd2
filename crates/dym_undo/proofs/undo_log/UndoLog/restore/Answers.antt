use Rattle.std.proofs.Common.{◌≡◌, ℕ, suc, ◌-◌, ◌/◌, ◌<◌, List, [], length, take, drop, get_or, None, Some, refl, sym, ap, ap₂, subst, ◌∙◌, arith}
use Rattle.std.specs.FinSet as set
use Rattle.dym_base.specs.Heaps.{HeapState, Live, Touched, held}
use Rattle.dym_base.specs.Objects.{LogEntry, ObjectAnswer, reached, restore, restore_to}
use Rattle.dym_base.specs.declared.command.Version.{Version}
use Rattle.dym_base.specs.declared.reply.Reply.TheVariants as reply
use Rattle.dym_undo.specs.Changes.{Change, patched}
use Rattle.dym_undo.specs.Heads.{changes_of, bytes_in}
use Rattle.dym_undo.specs.Keys.{IsKey, is_stamped}
use Rattle.dym_undo.specs.Passes.{AreHeadKeys, AreFitting, is_headed}
use Rattle.dym_undo.specs.UndoLogs.{UndoMeaning, Belongs, last_place, entry_of, no_entry, log_at, object_of}
use Rattle.dym_undo.specs.declared.entry.Entry.{Entry}
use Rattle.dym_undo.specs.declared.head.Head.{Head}
use Rattle.dym_undo.proofs.Decoding.{placed_last}
use Rattle.dym_undo.proofs.Places.{count_same, entry_at}
use Rattle.dym_undo.proofs.Logging.{since_headed, fields_same, meaning_same}
use Rattle.dym_undo.proofs.Keeping.{whole_slice}
use Rattle.dym_undo.proofs.Rolling.{copy_at, same_at, left_is, newest_left, restore-within_heads, restore-within, undo_log-restore, belongs-restore, touches_none, none_restored, restored_is}
use Rattle.dym_undo.proofs.undo_log.UndoLog.restore.Given as given
use Rattle.dym_undo.proofs.undo_log.UndoLog.restore.Goals.{After-reached-kept, After-index-place, After-cut}
use Rattle.dym_undo.proofs.undo_log.UndoLog.restore.Goals as goal

-- ---- where no log is reached

module _ (g : given.Over) (c : After-reached-kept g) where
  abbrev s : HeapState
  s = g.H.UndoHeap.state c.args.heap.now

  abbrev logs : List LogEntry
  logs = c.self.inside.ghost_logs.logs

  kept_is : c.reached-kept.result ≡ reached c.args.time logs
  kept_is = c.reached-kept.ensures.reached logs (c.deref.ensures.value ∙ c.self.invariant.entries_are) c.self.invariant.list.2

  none_is : c.reached-kept.result ≡ 0 → restore_to (object_of s c.args.self.now) [] None ≡ restore (object_of s c.args.self.now) c.args.time
  none_is none = sym (none_restored (object_of s c.args.self.now) c.args.time (ap (λ (x : UndoMeaning). reached c.args.time x.logs) (sym c.self.view_is) ∙ sym kept_is ∙ none))

pub returns-then-kept-eq0-clause-answer : goal.returns-then-kept-eq0-clause-answer
returns-then-kept-eq0-clause-answer g c = ap (λ (a : ObjectAnswer). a.reply) (none_is g (goal.at.returns-then-kept-eq0-clause-answer g c).After-reached-kept c.if-kept-eq0.true)

pub returns-then-kept-eq0-clause-after : goal.returns-then-kept-eq0-clause-after
returns-then-kept-eq0-clause-after g c = ap (λ (a : ObjectAnswer). a.object) (none_is g (goal.at.returns-then-kept-eq0-clause-after g c).After-reached-kept c.if-kept-eq0.true)

pub returns-then-kept-eq0-clause-refused : goal.returns-then-kept-eq0-clause-refused
returns-then-kept-eq0-clause-refused g c = (refl, refl)

pub returns-then-kept-eq0-clause-belongs : goal.returns-then-kept-eq0-clause-belongs
returns-then-kept-eq0-clause-belongs g c = c.requires.belongs

pub returns-then-kept-eq0-clause-rest : goal.returns-then-kept-eq0-clause-rest
returns-then-kept-eq0-clause-rest g c = g.met.H.UndoHeap.rest_itself c.args.heap.now

pub returns-then-kept-eq0-clause-sound : goal.returns-then-kept-eq0-clause-sound
returns-then-kept-eq0-clause-sound g c = c.requires.sound

-- ---- the log that is restored

pub overflow_sub-kept : goal.overflow_sub-kept
overflow_sub-kept g c = omega (arith, c.if-kept-eq0.false)

pub index-target-requires : goal.index-target-requires
index-target-requires g c = omega (arith, c.if-kept-eq0.false, c.reached-kept.ensures.within, c.deref.ensures.len)

pub overflow_sub-kept-2 : goal.overflow_sub-kept-2
overflow_sub-kept-2 g c = omega (arith, c.if-kept-eq0.false)

pub index-place-requires : goal.index-place-requires
index-place-requires g c =
    omega (arith, c.if-kept-eq0.false, c.reached-kept.ensures.within, count_same c.self.inside.ghost_logs.logs c.deref.result.now (c.deref.ensures.value ∙ c.self.invariant.entries_are), c.self.invariant.each_placed)

module _ (g : given.Over) (c : After-index-place g) where
  abbrev first : After-reached-kept g
  first = (goal.at.After-index-place g c).After-reached-kept

  abbrev v : Version
  v = g.H.UndoHeap.version_of c.args.heap.now

  abbrev q : ℕ
  q = g.H.UndoHeap.quota_of c.args.heap.now

  abbrev places : List ℕ
  places = c.self.inside.places.items

  abbrev heads : List Head
  heads = c.self.inside.heads.items

  abbrev bytes : List ℕ
  bytes = c.self.inside.bytes.items

  abbrev cs : List Change
  cs = changes_of heads bytes

  abbrev m : ℕ
  m = c.reached-kept.result - 1

  abbrev place : ℕ
  place = get_or places m 0

  abbrev u : UndoMeaning
  u = record { logs = logs g first; places = places; changes = cs; quota = c.self.inside.quota }

  next : c.reached-kept.result ≡ suc m
  next = omega (arith, c.if-kept-eq0.false)

  logged : m < length (logs g first)
  logged = omega (arith, c.if-kept-eq0.false, c.reached-kept.ensures.within, count_same (logs g first) c.deref.result.now (c.deref.ensures.value ∙ c.self.invariant.entries_are))

  lt : m < length places
  lt = omega (arith, logged, c.self.invariant.each_placed)

  place_is : c.index-place.result.now ≡ place
  place_is = c.index-place.ensures ∙ same_at places m c.index-place.result.now 0 lt

  target_is : c.index-target.result.now ≡ entry_of (log_at (logs g first) m)
  target_is = c.index-target.ensures ∙ entry_at (logs g first) c.self.inside.entries.items m c.index-target.result.now c.self.invariant.entries_are logged

  belongs : Belongs v q (s g first) u
  belongs = subst (Belongs v q (s g first)) (sym c.self.view_is) c.requires.belongs

  answer_is : restore_to (object_of (s g first) u) (take (suc m) (logs g first)) (Some (log_at (logs g first) m)) ≡ restore (object_of (s g first) c.args.self.now) c.args.time
  answer_is =
      sym (restored_is (object_of (s g first) u) c.args.time m (sym next ∙ kept_is g first)
      (newest_left c.self.inside.quota c.self.inside.entries.items places heads bytes c.self.inside.words.items _ _ (logs g first) m c.self.invariant lt))
      ∙ ap (λ (x : UndoMeaning). restore (object_of (s g first) x) c.args.time) c.self.view_is

pub begin_interval-requires-clause-sound : goal.begin_interval-requires-clause-sound
begin_interval-requires-clause-sound g c = c.requires.sound

pub begin_interval-requires-clause-keys : goal.begin_interval-requires-clause-keys
begin_interval-requires-clause-keys g c =
    let limit : length c.deref_mut.result.now / 64 ≡ c.self.inside.quota = omega (arith, ap length c.deref_mut.ensures.value, c.self.invariant.word_count) in
    subst (AreHeadKeys (length c.deref_mut.result.now / 64)) (sym c.deref-2.ensures.value) (subst (λ n. AreHeadKeys n c.self.inside.heads.items) (sym limit) c.self.invariant.keys)

pub begin_interval-requires-clause-within : goal.begin_interval-requires-clause-within
begin_interval-requires-clause-within g c =
    omega (arith, placed_last 0 (length c.self.inside.heads.items) c.self.inside.places.items c.self.invariant.placed, ap last_place c.deref-3.ensures.value, ap length c.deref-2.ensures.value)

pub begin_interval-requires-clause-unlogged : goal.begin_interval-requires-clause-unlogged
begin_interval-requires-clause-unlogged g c none = c.deref-2.ensures.value ∙ c.self.invariant.unlogged (sym (ap length c.deref-3.ensures.value) ∙ none)

pub begin_interval-requires-clause-stamps : goal.begin_interval-requires-clause-stamps
begin_interval-requires-clause-stamps g c k is =
    let limit : length c.deref_mut.result.now / 64 ≡ c.self.inside.quota = omega (arith, ap length c.deref_mut.ensures.value, c.self.invariant.word_count) in
    ap (λ (w : List ℕ). is_stamped w k) c.deref_mut.ensures.value
    ∙ c.self.invariant.stamps k (subst (λ n. IsKey n k) limit is)
    ∙ since_headed k c.self.inside.places.items c.self.inside.heads.items c.self.inside.bytes.items
    ∙ ap₂ (λ (ps : List ℕ) (l : List Head). is_headed k (drop (last_place ps) l)) (sym c.deref-3.ensures.value) (sym c.deref-2.ensures.value)

pub begin_interval-requires-clause-noted : goal.begin_interval-requires-clause-noted
begin_interval-requires-clause-noted g c some k touched =
    let a = (goal.at.begin_interval-requires-clause-noted g c).After-index-place in
    ap₂ (λ (ps : List ℕ) (l : List Head). is_headed k (drop (last_place ps) l)) c.deref-3.ensures.value c.deref-2.ensures.value
    ∙ sym (since_headed k c.self.inside.places.items c.self.inside.heads.items c.self.inside.bytes.items)
    ∙ (belongs g a).noted (subst (λ (ps : List ℕ). 0 < length ps) c.deref-3.ensures.value some) k touched

-- ---- its changes are taken back

pub undo_from-requires-clause-sound : goal.undo_from-requires-clause-sound
undo_from-requires-clause-sound g c = c.begin_interval.ensures.sound

pub undo_from-requires-clause-whole : goal.undo_from-requires-clause-whole
undo_from-requires-clause-whole g c = c.self.invariant.whole

pub undo_from-requires-clause-keys : goal.undo_from-requires-clause-keys
undo_from-requires-clause-keys g c =
    let same = c.deref_mut-2.ensures.value ∙ whole_slice c.self.inside.words.len c.begin_interval.new.words c.self.inside.words.items (c.begin_interval.auto.words ∙ ap length c.deref_mut.ensures.value) (omega arith) in
    let limit : length c.deref_mut-2.result.now / 64 ≡ c.self.inside.quota = omega (arith, ap length same, c.begin_interval.auto.words, ap length c.deref_mut.ensures.value, c.self.invariant.word_count) in
    subst (λ n. AreHeadKeys n c.self.inside.heads.items) (sym limit) c.self.invariant.keys

pub undo_from-requires-clause-fitting : goal.undo_from-requires-clause-fitting
undo_from-requires-clause-fitting g c =
    let a = (goal.at.undo_from-requires-clause-fitting g c).After-index-place in
    subst (λ (w : Version). AreFitting w (cs g a)) (sym (g.met.H.UndoHeap.rest_version _ _ c.begin_interval.ensures.rest)) (belongs g a).fitting

pub undo_from-requires-clause-within_heads : goal.undo_from-requires-clause-within_heads
undo_from-requires-clause-within_heads g c =
    let a = (goal.at.undo_from-requires-clause-within_heads g c).After-index-place in
    omega (arith, place_is g a, restore-within_heads c.self.inside.quota c.self.inside.entries.items (places g a) (heads g a) (bytes g a) c.self.inside.words.items _ _ (logs g (first g a)) (m g a) c.self.invariant (lt g a))

pub undo_from-requires-clause-unstamped : goal.undo_from-requires-clause-unstamped
undo_from-requires-clause-unstamped g c k is =
    let same = c.deref_mut-2.ensures.value ∙ whole_slice c.self.inside.words.len c.begin_interval.new.words c.self.inside.words.items (c.begin_interval.auto.words ∙ ap length c.deref_mut.ensures.value) (omega arith) in
    ap (λ (w : List ℕ). is_stamped w k) same ∙ c.begin_interval.ensures.unstamped k (subst (λ (w : List ℕ). IsKey (length w / 64) k) same is)

pub undo_from-requires-clause-within : goal.undo_from-requires-clause-within
undo_from-requires-clause-within g c =
    let a = (goal.at.undo_from-requires-clause-within g c).After-index-place in
    let low = restore-within c.self.inside.quota c.self.inside.entries.items (places g a) (heads g a) (bytes g a) c.self.inside.words.items _ _ (logs g (first g a)) (m g a) c.self.invariant (lt g a) (s g (first g a)).live (belongs g a).copies in
    omega (arith, low, ap₂ (λ (n : ℕ) (x : HeapState). held (patched (drop n (cs g a)) x.live)) (place_is g a) c.begin_interval.ensures.state, (belongs g a).quota_same, g.met.H.UndoHeap.rest_quota _ _ c.begin_interval.ensures.rest)

module _ (g : given.Over) (c : After-cut g) where
  abbrev at : After-index-place g
  at = (goal.at.After-cut g c).After-index-place

  abbrev copy : Live
  copy = patched (drop (place g at) (cs g at)) (s g (first g at)).live

  state_is : g.H.UndoHeap.state c.undo_from.new.heap ≡ record { live = copy; touched = set.empty }
  state_is =
      ap₂ (λ (l : Live) (x : Touched). record { live = l; touched = x })
      (c.undo_from.ensures.live ∙ ap₂ (λ (n : ℕ) (x : HeapState). patched (drop n (cs g at)) x.live) (place_is g at) c.begin_interval.ensures.state)
      (touches_none (g.H.UndoHeap.state c.begin_interval.new.heap) (g.H.UndoHeap.state c.undo_from.new.heap) (ap (λ (x : HeapState). x.touched) c.begin_interval.ensures.state) c.undo_from.ensures.touched)

  heads_are : c.undo_from.new.heads.items ≡ take (place g at) (heads g at)
  heads_are = c.undo_from.ensures.heads ∙ ap (λ n. take n (heads g at)) (place_is g at)

  bytes_are : c.undo_from.new.bytes.items ≡ take (bytes_in (take (place g at) (heads g at))) (bytes g at)
  bytes_are = c.undo_from.ensures.bytes ∙ ap (λ n. take (bytes_in (take n (heads g at))) (bytes g at)) (place_is g at)

  places_are : c.truncate-2.new.self.items ≡ take (suc (m g at)) (places g at)
  places_are = c.truncate-2.ensures.items ∙ ap (λ n. take n (places g at)) (next g at)

  logs_are : c.cut.result.logs ≡ take (suc (m g at)) (logs g (first g at))
  logs_are = c.cut.ensures ∙ ap (λ n. take n (logs g (first g at))) (next g at)

pub invariant_of-self : goal.invariant_of-self
invariant_of-self g c =
    let u = (goal.at.invariant_of-self g c).After-cut in
    let a = at g u in
    let old = whole_slice c.self.inside.words.len c.begin_interval.new.words c.self.inside.words.items (c.begin_interval.auto.words ∙ ap length c.deref_mut.ensures.value) (omega arith) in
    let count = c.undo_from.auto.words ∙ ap length (c.deref_mut-2.ensures.value ∙ old) ∙ c.begin_interval.auto.words ∙ ap length c.deref_mut.ensures.value in
    fields_same c.self.inside.quota _ _ _ _ _ _ _ _ _ _ _ _ _ _
    (c.truncate.ensures.items ∙ ap (λ n. take n c.self.inside.entries.items) (next g a)) (places_are g u) (heads_are g u) (bytes_are g u)
    (whole_slice c.self.inside.words.len c.undo_from.new.words _ (c.undo_from.auto.words ∙ ap length c.deref_mut-2.ensures.value) (omega (arith, ap length old, c.begin_interval.auto.words, ap length c.deref_mut.ensures.value)))
    (logs_are g u)
    (undo_log-restore c.self.inside.quota c.self.inside.entries.items (places g a) (heads g a) (bytes g a) c.self.inside.words.items _ _ (logs g (first g a)) (m g a) c.self.invariant (lt g a)
    c.undo_from.new.words _ _ count c.undo_from.ensures.unstamped (omega (arith, c.undo_from.ensures.head_room)) (omega (arith, c.undo_from.ensures.byte_room)))

pub returns-clause-answer : goal.returns-clause-answer
returns-clause-answer g c =
    let a = (goal.at.returns-clause-answer g c).After-index-place in
    ap (λ (e : Entry). reply.At e.time) (target_is g a) ∙ ap (λ (x : ObjectAnswer). x.reply) (answer_is g a)

pub returns-clause-after : goal.returns-clause-after
returns-clause-after g c =
    let u = (goal.at.returns-clause-after g c).After-cut in
    let a = at g u in
    ap₂ (λ (h : HeapState) (l : List LogEntry). record { heap = h; logs = l })
    (state_is g u ∙ ap (λ (l : Live). record { live = l; touched = set.empty }) (sym (copy_at (s g (first g a)).live (cs g a) (places g a) (logs g (first g a)) (m g a) no_entry (belongs g a).copies (lt g a))))
    (logs_are g u)
    ∙ ap (λ (x : ObjectAnswer). x.object) (answer_is g a)

pub returns-clause-belongs : goal.returns-clause-belongs
returns-clause-belongs g c =
    let u = (goal.at.returns-clause-belongs g c).After-cut in
    let a = at g u in
    let base = belongs-restore c.self.inside.quota c.self.inside.entries.items (places g a) (heads g a) (bytes g a) c.self.inside.words.items _ _ (logs g (first g a)) (m g a) c.self.invariant (lt g a) (v g a) (q g a) c.self.inside.quota (s g (first g a)) (belongs g a) in
    let changes = ap₂ changes_of (heads_are g u) (bytes_are g u) ∙ left_is c.self.inside.quota c.self.inside.entries.items (places g a) (heads g a) (bytes g a) c.self.inside.words.items _ _ (logs g (first g a)) (m g a) c.self.invariant (lt g a) in
    let view = meaning_same _ _ _ _ _ _ c.self.inside.quota (logs_are g u) (places_are g u) changes in
    let rest = g.met.H.UndoHeap.rest_along _ _ _ c.begin_interval.ensures.rest c.undo_from.ensures.rest in
    let after : UndoMeaning = record { logs = c.cut.result.logs; places = c.truncate-2.new.self.items; changes = changes_of c.undo_from.new.heads.items c.undo_from.new.bytes.items; quota = c.self.inside.quota } in
    subst (λ (w : Version). Belongs w (g.H.UndoHeap.quota_of c.undo_from.new.heap) (g.H.UndoHeap.state c.undo_from.new.heap) after) (sym (g.met.H.UndoHeap.rest_version _ _ rest))
    (subst (λ n. Belongs (v g a) n (g.H.UndoHeap.state c.undo_from.new.heap) after) (sym (g.met.H.UndoHeap.rest_quota _ _ rest))
    (subst (λ (h : HeapState). Belongs (v g a) (q g a) h after) (sym (state_is g u))
    (subst (Belongs (v g a) (q g a) (record { live = copy g u; touched = set.empty })) (sym view) base)))

pub returns-clause-rest : goal.returns-clause-rest
returns-clause-rest g c = g.met.H.UndoHeap.rest_along _ _ _ c.begin_interval.ensures.rest c.undo_from.ensures.rest

pub returns-clause-sound : goal.returns-clause-sound
returns-clause-sound g c = c.undo_from.ensures.sound
