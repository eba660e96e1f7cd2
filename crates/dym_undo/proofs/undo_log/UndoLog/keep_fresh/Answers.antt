use Rattle.std.proofs.Common.{◌≡◌, ℕ, ◌/◌, ◌<◌, false, List, [], ◌∷◌, ◌++◌, length, take, drop, Option, None, refl, sym, ap, ap₂, subst, ◌∙◌, arith}
use Rattle.std.specs.FinMap.{get}
use Rattle.std.specs.Vec.{vec_len}
use Rattle.dym_base.specs.HeapStep.{key}
use Rattle.dym_undo.specs.Changes.{Change, is_noted}
use Rattle.dym_undo.specs.Heads.{changes_of, bytes_in}
use Rattle.dym_undo.specs.Keys.{IsKey, is_stamped}
use Rattle.dym_undo.specs.Passes.{Fits}
use Rattle.dym_undo.specs.UndoLogs.{UndoMeaning, Belongs, ArePlaced, since, IsUndoLog}
use Rattle.dym_undo.specs.declared.head.Head.{Head}
use Rattle.dym_undo.proofs.Decoding.{length-changes_of, changes_of-push}
use Rattle.dym_undo.proofs.Keeping.{belongs-keep, kept_noted, belongs-change, undo_log-push, head_fits, some_places, no_places, whole_slice, placed_more}
use Rattle.std.proofs.Common.{◌==◌, length-append, append-nil}
use Rattle.std.specs.Vec.{vec_capacity}
use Rattle.dym_base.specs.declared.handle.Handle.{Handle}
use Rattle.dym_undo.specs.Keys.{with_stamp}
use Rattle.dym_undo.proofs.undo_log.UndoLog.keep_fresh.Given as given
use Rattle.dym_undo.proofs.undo_log.UndoLog.keep_fresh.Goals.{After-is_empty, After-live_is_key}
use Rattle.dym_undo.proofs.undo_log.UndoLog.keep_fresh.Goals as goal

pushed : (hs new_hs : List Head) (bytes : List ℕ) (h : Handle) (before : Option (List ℕ)) → bytes_in hs ≡ length bytes → new_hs ≡ hs ++ record { handle = h; len = None } ∷ [] → before ≡ None
    → changes_of new_hs bytes ≡ changes_of hs bytes ++ record { key = key h; before = before } ∷ []
pushed hs new_hs bytes h before whole heads_are before_is =
    ap₂ changes_of heads_are (sym (append-nil bytes)) ∙ changes_of-push hs bytes (record { handle = h; len = None }) [] whole refl
    ∙ ap (λ (y : Option (List ℕ)). changes_of hs bytes ++ record { key = key h; before = y } ∷ []) (sym before_is)

module _ (g : given.Over) (c : After-is_empty g) where
  abbrev k : ℕ
  k = key c.args.handle

  abbrev cs : List Change
  cs = changes_of c.self.inside.heads.items c.self.inside.bytes.items

  abbrev places : List ℕ
  places = c.self.inside.places.items

  abbrev u : UndoMeaning
  u = record { logs = c.self.inside.ghost_logs.logs; places = places; changes = cs; quota = c.self.inside.quota }

  placed : ArePlaced 0 (length cs) places
  placed = subst (λ n. ArePlaced 0 n places) (sym (length-changes_of c.self.inside.heads.items c.self.inside.bytes.items)) c.self.invariant.placed

pub returns-then-is_empty-clause-kept : goal.returns-then-is_empty-clause-kept
returns-then-is_empty-clause-kept g c v quota s t b dead differ =
    let a = (goal.at.returns-then-is_empty-clause-kept g c).After-is_empty in
    subst (Belongs v quota t) c.self.view_is
    (belongs-change v quota (k g a) s t (u g a) (placed g a)
    (λ some. absurd (no_places c.self.inside.entries.items c.self.inside.ghost_logs.logs (places g a) c.self.invariant.entries_are c.self.invariant.each_placed (let same : vec_len c.self.inside.entries ≡ length c.self.inside.entries.items = omega arith in ap (λ n. n == 0) (sym same) ∙ sym c.if-is_empty.ensures) some)) differ (subst (Belongs v quota s) (sym c.self.view_is) b))

module _ (g : given.Over) (c : After-live_is_key g) where
  abbrev a : After-is_empty g
  a = (goal.at.After-live_is_key g c).After-is_empty

  is : IsKey c.self.inside.quota (k g a)
  is = subst (λ n. IsKey n (k g a)) (sym (ap (λ (x : UndoMeaning). x.quota) c.self.view_is ∙ c.requires.quota)) c.live_is_key.ensures

  words_quota : length c.self.inside.words.items / 64 ≡ c.self.inside.quota
  words_quota = omega (arith, c.self.invariant.word_count)

  some : 0 < length (places g a)
  some = some_places c.self.inside.entries.items c.self.inside.ghost_logs.logs (places g a) c.self.invariant.entries_are c.self.invariant.each_placed (let same : vec_len c.self.inside.entries ≡ length c.self.inside.entries.items = omega arith in ap (λ n. n == 0) (sym same) ∙ sym c.if-is_empty.ensures)

pub is_stamped-requires : goal.is_stamped-requires
is_stamped-requires g c =
    let b = (goal.at.is_stamped-requires g c).After-live_is_key in
    subst (λ n. IsKey n (key c.args.handle)) (sym (ap (λ (w : List ℕ). length w / 64) c.deref.ensures.value ∙ words_quota g b)) (is g b)

pub returns-then-is_stamped-clause-kept : goal.returns-then-is_stamped-clause-kept
returns-then-is_stamped-clause-kept g c v quota s t b dead differ =
    let l = (goal.at.returns-then-is_stamped-clause-kept g c).After-live_is_key in
    let a = a g l in
    subst (Belongs v quota t) c.self.view_is
    (belongs-change v quota (k g a) s t (u g a) (placed g a)
    (λ some. sym (c.self.invariant.stamps (k g a) (is g l)) ∙ ap (λ (w : List ℕ). is_stamped w (k g a)) (sym c.deref.ensures.value) ∙ sym c.if-is_stamped.ensures) differ (subst (Belongs v quota s) (sym c.self.view_is) b))

pub push_dead-requires : goal.push_dead-requires
push_dead-requires g c =
    let b = (goal.at.push_dead-requires g c).After-live_is_key in
    let o = a g b in
    let new : is_noted (k g o) (since (places g o) (cs g o)) ≡ false = sym (c.self.invariant.stamps (k g o) (is g b)) ∙ ap (λ (w : List ℕ). is_stamped w (k g o)) (sym c.deref.ensures.value) ∙ sym c.if-is_stamped.ensures in
    omega (arith, head_fits c.self.inside.quota _ _ (places g o) (cs g o) c.self.inside.ghost_logs.logs (record { key = k g o; before = None }) c.self.invariant.room (some g b) (is g b) new (placed g o), length-changes_of c.self.inside.heads.items c.self.inside.bytes.items)

pub stamp-requires : goal.stamp-requires
stamp-requires g c =
    let b = (goal.at.stamp-requires g c).After-live_is_key in
    subst (λ n. IsKey n (key c.args.handle)) (sym (ap (λ (w : List ℕ). length w / 64) c.deref_mut.ensures.value ∙ words_quota g b)) (is g b)

pub invariant_of-self : goal.invariant_of-self
invariant_of-self g c =
    let b = (goal.at.invariant_of-self g c).After-live_is_key in
    let o = a g b in
    let new : is_stamped c.self.inside.words.items (k g o) ≡ false = ap (λ (w : List ℕ). is_stamped w (k g o)) (sym c.deref.ensures.value) ∙ sym c.if-is_stamped.ensures in
    let x : Head = record { handle = c.args.handle; len = None } in
    let words = whole_slice c.self.inside.words.len c.stamp.new.words c.self.inside.words.items (c.stamp.auto.words ∙ ap length c.deref_mut.ensures.value) (omega arith) ∙ c.stamp.ensures ∙ ap (λ (w : List ℕ). with_stamp w (k g o)) c.deref_mut.ensures.value in
    let done = undo_log-push c.self.inside.quota c.self.inside.entries.items (places g o) c.self.inside.heads.items c.self.inside.bytes.items c.self.inside.words.items _ _ c.self.inside.ghost_logs.logs x []
    (vec_capacity c.push_dead.new.heads) (vec_capacity c.self.inside.bytes) c.self.invariant (some g b) (is g b) new refl (omega (arith, c.push_dead.ensures.room)) (omega arith)
    (λ e last. omega arith) in
    let h = vec_capacity c.push_dead.new.heads in
    let r = vec_capacity c.self.inside.bytes in
    let logs = c.self.inside.ghost_logs.logs in
    subst (λ (hs : List Head). IsUndoLog c.self.inside.quota c.self.inside.entries.items (places g o) hs c.self.inside.bytes.items (take c.self.inside.words.len (c.stamp.new.words ++ drop (length c.stamp.new.words) c.self.inside.words.items)) h r logs) (sym c.push_dead.ensures.heads)
    (subst (λ (bs : List ℕ). IsUndoLog c.self.inside.quota c.self.inside.entries.items (places g o) (c.self.inside.heads.items ++ x ∷ []) bs (take c.self.inside.words.len (c.stamp.new.words ++ drop (length c.stamp.new.words) c.self.inside.words.items)) h r logs) (append-nil c.self.inside.bytes.items)
    (subst (λ (ws : List ℕ). IsUndoLog c.self.inside.quota c.self.inside.entries.items (places g o) (c.self.inside.heads.items ++ x ∷ []) (c.self.inside.bytes.items ++ []) ws h r logs) (sym words) done))

pub returns-clause-kept : goal.returns-clause-kept
returns-clause-kept g c v quota s t belongs dead differ =
    let b = (goal.at.returns-clause-kept g c).After-live_is_key in
    let o = a g b in
    let change : Change = record { key = k g o; before = get s.live (k g o) } in
    let push = pushed c.self.inside.heads.items c.push_dead.new.heads.items c.self.inside.bytes.items c.args.handle (get s.live (k g o)) c.self.invariant.whole c.push_dead.ensures.heads dead in
    let B : Belongs v quota s (u g o) = subst (Belongs v quota s) (sym c.self.view_is) belongs in
    subst (λ (l : List Change). Belongs v quota t (record { logs = c.self.inside.ghost_logs.logs; places = places g o; changes = l; quota = c.self.inside.quota })) (sym push)
    (belongs-change v quota (k g o) s t (record { logs = c.self.inside.ghost_logs.logs; places = places g o; changes = cs g o ++ change ∷ []; quota = c.self.inside.quota })
    (placed_more 0 (length (cs g o)) (length (cs g o ++ change ∷ [])) (places g o) (omega (arith, length-append (cs g o) (change ∷ []))) (placed g o))
    (λ _. kept_noted (places g o) (cs g o) change (placed g o)) differ
    (belongs-keep v quota (k g o) s c.self.inside.ghost_logs.logs (places g o) (cs g o) c.self.inside.quota (placed g o) (subst (Fits v (k g o)) (sym dead) tt) B))
