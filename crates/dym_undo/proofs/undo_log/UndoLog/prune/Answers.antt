use Rattle.std.proofs.Common.{◌≡◌, ℕ, ◌-◌, ◌<◌, List, length, map, drop, refl, sym, ap, ap₂, subst, ◌∙◌, arith, vec_capacity}
use Rattle.dym_base.specs.Objects.{LogEntry, reached}
use Rattle.dym_base.specs.declared.reply.Reply.TheVariants as reply
use Rattle.dym_undo.specs.Heads.{changes_of}
use Rattle.dym_undo.specs.UndoLogs.{UndoMeaning, Belongs, ArePlaced, IsUndoLog, entry_of}
use Rattle.dym_undo.specs.declared.head.Head.{Head}
use Rattle.dym_undo.proofs.Places.{count_same}
use Rattle.dym_undo.proofs.Logging.{undo_log-room, fields_same, meaning_same}
use Rattle.dym_undo.proofs.Pruning.{less, placed_drop, undo_log-drop, belongs-drop, drain_is, undo_log-drain, belongs-drain}
use Rattle.dym_undo.proofs.undo_log.UndoLog.prune.Goals.{After-dropped_by-dropped, After-drop_dead}
use Rattle.dym_undo.proofs.undo_log.UndoLog.prune.Goals as goal

module _ (c : After-dropped_by-dropped) where
  abbrev logs : List LogEntry
  logs = c.self.inside.ghost_logs.logs

  abbrev n : ℕ
  n = c.dropped_by-dropped.result

  entries : c.deref.result.now ≡ map entry_of logs
  entries = c.deref.ensures.value ∙ c.self.invariant.entries_are

  count_is : n ≡ reached c.args.bound c.args.self.now.logs - 1
  count_is = c.dropped_by-dropped.ensures.dropped logs entries c.self.invariant.list.2 ∙ ap (λ (x : UndoMeaning). reached c.args.bound x.logs - 1) c.self.view_is

pub returns-then-dropped-eq0-clause-answer : goal.returns-then-dropped-eq0-clause-answer
returns-then-dropped-eq0-clause-answer c s = ap reply.Dropped (sym c.if-dropped-eq0.true ∙ count_is (goal.at.returns-then-dropped-eq0-clause-answer c).After-dropped_by-dropped)

pub returns-then-dropped-eq0-clause-after : goal.returns-then-dropped-eq0-clause-after
returns-then-dropped-eq0-clause-after c s =
    ap (λ k. record { heap = s; logs = drop k c.args.self.now.logs }) (sym c.if-dropped-eq0.true ∙ count_is (goal.at.returns-then-dropped-eq0-clause-after c).After-dropped_by-dropped)

pub returns-then-dropped-eq0-clause-belongs : goal.returns-then-dropped-eq0-clause-belongs
returns-then-dropped-eq0-clause-belongs c v quota s belongs = belongs

-- ---- some logs leave

within : (c : After-dropped_by-dropped) → (n c ≡ 0 → ⊥) → n c < length c.self.inside.places.items
within c some = omega (arith, some, c.dropped_by-dropped.ensures.within, count_same (logs c) c.deref.result.now (entries c), c.self.invariant.each_placed)

pub drop_first-requires : goal.drop_first-requires
drop_first-requires c = omega (arith, c.dropped_by-dropped.ensures.within, c.deref.ensures.len)

pub drop_first-requires-2 : goal.drop_first-requires-2
drop_first-requires-2 c = omega (arith, within (goal.at.drop_first-requires-2 c).After-dropped_by-dropped c.if-dropped-eq0.false)

pub drop_dead-requires-clause-placed : goal.drop_dead-requires-clause-placed
drop_dead-requires-clause-placed c =
    subst (ArePlaced 0 (length c.self.inside.heads.items)) (sym c.drop_first-2.ensures.items) (placed_drop c.dropped_by-dropped.result 0 (length c.self.inside.heads.items) c.self.inside.places.items c.self.invariant.placed)

pub drop_dead-requires-clause-whole : goal.drop_dead-requires-clause-whole
drop_dead-requires-clause-whole c = c.self.invariant.whole

pub overflow_cast-result : goal.overflow_cast-result
overflow_cast-result c =
    let a = (goal.at.overflow_cast-result c).After-dropped_by-dropped in
    record { fits = omega (arith, within a c.if-dropped-eq0.false, c.self.invariant.each_placed, c.self.invariant.list.0) }

module _ (c : After-drop_dead) where
  abbrev first : After-dropped_by-dropped
  first = (goal.at.After-drop_dead c).After-dropped_by-dropped

  abbrev places : List ℕ
  places = drop (n first) c.self.inside.places.items

  abbrev heads : List Head
  heads = c.self.inside.heads.items

  abbrev bytes : List ℕ
  bytes = c.self.inside.bytes.items

  abbrev count : ℕ
  count = c.drop_dead.ensures.drained.count

  placed : ArePlaced count (length heads) places
  placed = subst (ArePlaced count (length heads)) c.drop_first-2.ensures.items c.drop_dead.ensures.drained.placed

  places_are : c.drop_dead.new.places.items ≡ map (less count) places
  places_are = c.drop_dead.ensures.drained.places_are ∙ ap (map (less count)) c.drop_first-2.ensures.items

  left : IsUndoLog c.self.inside.quota (drop (n first) c.self.inside.entries.items) places heads bytes c.self.inside.words.items (vec_capacity c.self.inside.heads) (vec_capacity c.self.inside.bytes) (drop (n first) (logs first))
  left = undo_log-drop c.self.inside.quota c.self.inside.entries.items c.self.inside.places.items heads bytes c.self.inside.words.items _ _ (logs first) (n first) c.self.invariant (within first c.if-dropped-eq0.false)

pub invariant_of-self : goal.invariant_of-self
invariant_of-self c =
    let u = (goal.at.invariant_of-self c).After-drop_dead in
    undo_log-room c.self.inside.quota _ _ _ _ _ (vec_capacity c.self.inside.heads) (vec_capacity c.self.inside.bytes) _ _ _
    (fields_same c.self.inside.quota _ _ _ _ _ _ _ _ _ _ _ _ _ _ c.drop_first.ensures.items (places_are u) c.drop_dead.ensures.drained.heads_are c.drop_dead.ensures.drained.bytes_are refl c.cut.ensures
    (undo_log-drain c.self.inside.quota _ (places u) (heads u) (bytes u) c.self.inside.words.items _ _ _ (count u) (left u) (placed u)))
    (omega (arith, c.drop_dead.ensures.head_room)) (omega (arith, c.drop_dead.ensures.byte_room))

pub returns-clause-answer : goal.returns-clause-answer
returns-clause-answer c s = ap reply.Dropped (count_is (goal.at.returns-clause-answer c).After-dropped_by-dropped)

pub returns-clause-after : goal.returns-clause-after
returns-clause-after c s =
    let a = (goal.at.returns-clause-after c).After-dropped_by-dropped in
    ap (λ (l : List LogEntry). record { heap = s; logs = l }) (c.cut.ensures ∙ ap₂ (λ (k : ℕ) (x : UndoMeaning). drop k x.logs) (count_is a) c.self.view_is)

pub returns-clause-belongs : goal.returns-clause-belongs
returns-clause-belongs c v quota s belongs =
    let u = (goal.at.returns-clause-belongs c).After-drop_dead in
    let a = first u in
    let old = subst (Belongs v quota s) (sym c.self.view_is) belongs in
    let dropped = belongs-drop v quota c.self.inside.quota (n a) s (logs a) c.self.inside.places.items (changes_of (heads u) (bytes u)) (within a c.if-dropped-eq0.false) old in
    let drained = belongs-drain c.self.inside.quota _ (places u) (heads u) (bytes u) c.self.inside.words.items _ _ (drop (n a) (logs a)) (count u) (left u) (placed u) v quota c.self.inside.quota s dropped in
    let changes = ap₂ changes_of c.drop_dead.ensures.drained.heads_are c.drop_dead.ensures.drained.bytes_are ∙ drain_is c.self.inside.quota _ (places u) (heads u) (bytes u) c.self.inside.words.items _ _ (drop (n a) (logs a)) (count u) (left u) (placed u) in
    subst (Belongs v quota s) (sym (meaning_same _ _ _ _ _ _ c.self.inside.quota c.cut.ensures (places_are u) changes)) drained
