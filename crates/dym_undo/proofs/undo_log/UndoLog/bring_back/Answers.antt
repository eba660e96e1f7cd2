use Rattle.std.proofs.Common.{◌≡◌, ℕ, ◌*◌, ◌/◌, ◌-◌, ◌<◌, ◌≤◌, List, length, take, drop, replicate, get_or, rules, sym, ap, ap₂, subst, ◌∙◌, arith}
use Rattle.dym_base.specs.Heaps.{HeapState, held}
use Rattle.dym_base.specs.Objects.{LogEntry}
use Rattle.dym_base.specs.declared.command.Version.{Version}
use Rattle.dym_undo.specs.Changes.{Change, patched}
use Rattle.dym_undo.specs.Heads.{bytes_in, changes_of}
use Rattle.dym_undo.specs.Keys.{is_stamped}
use Rattle.dym_undo.specs.Passes.{AreHeadKeys, AreFitting}
use Rattle.dym_undo.specs.UndoLogs.{UndoMeaning, Belongs, log_at, no_entry}
use Rattle.dym_undo.specs.declared.head.Head.{Head}
use Rattle.dym_undo.proofs.Decoding.{keys-drop, bytes_in-split, changes_of-drop, fitting-drop}
use Rattle.dym_undo.proofs.Logging.{none_stamped}
use Rattle.dym_undo.proofs.Rolling.{copy_at, same_at, restore-within_heads, restore-within}
use Rattle.dym_undo.proofs.undo_log.UndoLog.bring_back.Given as given
use Rattle.dym_undo.proofs.undo_log.UndoLog.bring_back.Goals.{After-index-place, After-split_at, After-count_bytes}
use Rattle.dym_undo.proofs.undo_log.UndoLog.bring_back.Goals as goal

module _ (g : given.Over) (c : After-index-place g) where
  abbrev v : Version
  v = g.H.UndoHeap.version_of c.args.heap.now

  abbrev q : ℕ
  q = g.H.UndoHeap.quota_of c.args.heap.now

  abbrev s : HeapState
  s = g.H.UndoHeap.state c.args.heap.now

  abbrev logs : List LogEntry
  logs = c.self.inside.ghost_logs.logs

  abbrev places : List ℕ
  places = c.self.inside.places.items

  abbrev heads : List Head
  heads = c.self.inside.heads.items

  abbrev bytes : List ℕ
  bytes = c.self.inside.bytes.items

  abbrev cs : List Change
  cs = changes_of heads bytes

  abbrev place : ℕ
  place = get_or places c.args.k 0

  belongs : Belongs v q s (record { logs = logs; places = places; changes = cs; quota = c.self.inside.quota })
  belongs = subst (Belongs v q s) (sym c.self.view_is) c.requires.belongs

  lt : c.args.k < length places
  lt = omega (arith, c.requires.log, ap (λ (u : UndoMeaning). length u.logs) c.self.view_is, c.self.invariant.each_placed)

  place_is : c.index-place.result.now ≡ place
  place_is = c.index-place.ensures ∙ same_at places c.args.k c.index-place.result.now 0 lt

  within : place ≤ length heads
  within = restore-within_heads c.self.inside.quota c.self.inside.entries.items places heads bytes c.self.inside.words.items _ _ logs c.args.k c.self.invariant lt

pub split_at-requires : goal.split_at-requires
split_at-requires g c =
    let a = (goal.at.split_at-requires g c).After-index-place in
    omega (arith, place_is g a, within g a, ap length c.deref.ensures.value)

heads_back : (g : given.Over) (c : After-split_at g) → c.split_at.result.1.now ≡ drop c.index-place.result.now c.self.inside.heads.items
heads_back g c = c.split_at.ensures.back ∙ ap (drop c.index-place.result.now) c.deref.ensures.value

pub count_bytes-requires : goal.count_bytes-requires
count_bytes-requires g c =
    let a = (goal.at.count_bytes-requires g c).After-split_at in
    omega (arith, ap bytes_in (heads_back g a), bytes_in-split c.index-place.result.now c.self.inside.heads.items, c.self.invariant.whole, c.len-len.ensures)

pub overflow_sub-from : goal.overflow_sub-from
overflow_sub-from g c =
    let a = (goal.at.overflow_sub-from g c).After-split_at in
    omega (arith, c.count_bytes.ensures, ap bytes_in (heads_back g a), bytes_in-split c.index-place.result.now c.self.inside.heads.items, c.self.invariant.whole, c.len-len.ensures)

module _ (g : given.Over) (c : After-count_bytes g) where
  abbrev first : After-index-place g
  first = (goal.at.After-count_bytes g c).After-index-place

  heads_are : c.split_at.result.1.now ≡ drop (place g first) (heads g first)
  heads_are = heads_back g (goal.at.After-count_bytes g c).After-split_at ∙ ap (λ n. drop n (heads g first)) (place_is g first)

  from_is : c.len-len.result - c.count_bytes.result ≡ bytes_in (take (place g first) (heads g first))
  from_is = omega (arith, c.count_bytes.ensures, ap bytes_in heads_are, bytes_in-split (place g first) (heads g first), c.self.invariant.whole, c.len-len.ensures)

changes_are : (hs : List Head) (bytes : List ℕ) (undone : List Head) (tail given_bytes : List ℕ) (place from : ℕ) → undone ≡ drop place hs → from ≡ bytes_in (take place hs) → tail ≡ drop from given_bytes → given_bytes ≡ bytes → changes_of undone tail ≡ drop place (changes_of hs bytes)
changes_are hs bytes undone tail given_bytes place from heads_are from_is tail_is given_is =
    ap₂ changes_of heads_are (tail_is ∙ ap₂ (λ (n : ℕ) (b : List ℕ). drop n b) from_is given_is) ∙ changes_of-drop place hs bytes

pub take_back-requires-clause-fits : goal.take_back-requires-clause-fits
take_back-requires-clause-fits g c =
    let a = (goal.at.take_back-requires-clause-fits g c).After-count_bytes in
    omega (arith, c.count_bytes.ensures, c.len-len.ensures, c.split_at-2.ensures.back_len, c.deref-2.ensures.len, from_is g a, ap bytes_in (heads_are g a), bytes_in-split (place g (first g a)) (heads g (first g a)), c.self.invariant.whole)

pub take_back-requires-clause-keys : goal.take_back-requires-clause-keys
take_back-requires-clause-keys g c =
    let a = (goal.at.take_back-requires-clause-keys g c).After-count_bytes in
    let limit : length c.deref_mut.result.now / 64 ≡ c.self.inside.quota = omega (arith, ap length c.deref_mut.ensures.value, c.in_ok-words.ensures.len, c.in_ok-words.words.ok.0) in
    subst (AreHeadKeys (length c.deref_mut.result.now / 64)) (sym (heads_are g a))
    (subst (λ n. AreHeadKeys n (drop (place g (first g a)) (heads g (first g a)))) (sym limit) (keys-drop c.self.inside.quota (place g (first g a)) (heads g (first g a)) c.self.invariant.keys))

pub take_back-requires-clause-fitting : goal.take_back-requires-clause-fitting
take_back-requires-clause-fitting g c =
    let a = (goal.at.take_back-requires-clause-fitting g c).After-count_bytes in
    let f = first g a in
    subst (AreFitting (v g f)) (sym (changes_are (heads g f) (bytes g f) _ _ _ (place g f) _ (heads_are g a) (from_is g a) c.split_at-2.ensures.back c.deref-2.ensures.value))
    (fitting-drop (v g f) (place g f) (cs g f) (belongs g f).fitting)

pub take_back-requires-clause-unstamped : goal.take_back-requires-clause-unstamped
take_back-requires-clause-unstamped g c k is =
    let are : c.in_ok-words.words.items ≡ replicate (c.self.inside.quota * 64) 0 = search rules in
    ap (λ (w : List ℕ). is_stamped w k) (c.deref_mut.ensures.value ∙ are) ∙ none_stamped (c.self.inside.quota * 64) k

pub take_back-requires-clause-within : goal.take_back-requires-clause-within
take_back-requires-clause-within g c =
    let a = (goal.at.take_back-requires-clause-within g c).After-count_bytes in
    let f = first g a in
    let low = restore-within c.self.inside.quota c.self.inside.entries.items (places g f) (heads g f) (bytes g f) c.self.inside.words.items _ _ (logs g f) c.args.k c.self.invariant (lt g f) (s g f).live (belongs g f).copies in
    subst (λ (l : List Change). held (patched l (s g f).live) ≤ q g f) (sym (changes_are (heads g f) (bytes g f) _ _ _ (place g f) _ (heads_are g a) (from_is g a) c.split_at-2.ensures.back c.deref-2.ensures.value))
    (subst (λ n. held (patched (drop (place g f) (cs g f)) (s g f).live) ≤ n) (belongs g f).quota_same low)

pub returns-clause-live : goal.returns-clause-live
returns-clause-live g c =
    let a = (goal.at.returns-clause-live g c).After-count_bytes in
    let f = first g a in
    c.take_back.ensures.live
    ∙ ap (λ (l : List Change). patched l (s g f).live) (changes_are (heads g f) (bytes g f) _ _ _ (place g f) _ (heads_are g a) (from_is g a) c.split_at-2.ensures.back c.deref-2.ensures.value)
    ∙ sym (copy_at (s g f).live (cs g f) (places g f) (logs g f) c.args.k no_entry (belongs g f).copies (lt g f))
    ∙ ap (λ (u : UndoMeaning). (log_at u.logs c.args.k).copy) c.self.view_is
