use Rattle.std.proofs.Common.{◌≡◌, ℕ, ◌/◌, ◌-◌, ◌≤◌, List, length, take, drop, sym, ap, ap₂, subst, ◌∙◌, arith}
use Rattle.dym_base.specs.Heaps.{held}
use Rattle.dym_undo.specs.Changes.{Change, patched}
use Rattle.dym_undo.specs.Heads.{bytes_in, changes_of}
use Rattle.dym_undo.specs.Passes.{AreHeadKeys, AreFitting}
use Rattle.dym_undo.specs.declared.head.Head.{Head}
use Rattle.dym_undo.proofs.Decoding.{keys-drop, bytes_in-split, changes_of-drop, fitting-drop}
use Rattle.dym_undo.proofs.passes.undo_from.Given as given
use Rattle.dym_undo.proofs.passes.undo_from.Goals.{After-count_bytes}
use Rattle.dym_undo.proofs.passes.undo_from.Goals as goal

changes_are : (hs : List Head) (bytes : List ℕ) (undone : List Head) (tail given_bytes : List ℕ) (place from : ℕ) → undone ≡ drop place hs → from ≡ bytes_in (take place hs) → tail ≡ drop from given_bytes → given_bytes ≡ bytes → changes_of undone tail ≡ drop place (changes_of hs bytes)
changes_are hs bytes undone tail given_bytes place from heads_are from_is tail_is given_is =
    ap₂ changes_of heads_are (tail_is ∙ ap₂ (λ (n : ℕ) (b : List ℕ). drop n b) from_is given_is) ∙ changes_of-drop place hs bytes

pub count_bytes-requires : goal.count_bytes-requires
count_bytes-requires g c =
    omega (arith, ap bytes_in (c.split_at.ensures.back ∙ ap (drop c.args.place) c.deref.ensures.value), bytes_in-split c.args.place c.args.heads.now.items, c.requires.whole, c.len-len.ensures)

module _ (g : given.Over) (c : After-count_bytes g) where
  heads_are : c.split_at.result.1.now ≡ drop c.args.place c.args.heads.now.items
  heads_are = c.split_at.ensures.back ∙ ap (drop c.args.place) c.deref.ensures.value

  from_is : c.len-len.result - c.count_bytes.result ≡ bytes_in (take c.args.place c.args.heads.now.items)
  from_is = omega (arith, c.count_bytes.ensures, ap bytes_in heads_are, bytes_in-split c.args.place c.args.heads.now.items, c.requires.whole, c.len-len.ensures)

pub overflow_sub-from : goal.overflow_sub-from
overflow_sub-from g c =
    omega (arith, c.count_bytes.ensures, ap bytes_in (c.split_at.ensures.back ∙ ap (drop c.args.place) c.deref.ensures.value), bytes_in-split c.args.place c.args.heads.now.items, c.requires.whole, c.len-len.ensures)

pub take_back-requires-clause-keys : goal.take_back-requires-clause-keys
take_back-requires-clause-keys g c =
    let a = (goal.at.take_back-requires-clause-keys g c).After-count_bytes in
    subst (AreHeadKeys (length c.args.words.now / 64)) (sym (heads_are g a)) (keys-drop (length c.args.words.now / 64) c.args.place c.args.heads.now.items c.requires.keys)

pub take_back-requires-clause-fits : goal.take_back-requires-clause-fits
take_back-requires-clause-fits g c =
    let a = (goal.at.take_back-requires-clause-fits g c).After-count_bytes in
    omega (arith, c.count_bytes.ensures, c.len-len.ensures, c.split_at-2.ensures.back_len, c.deref-2.ensures.len, from_is g a, ap bytes_in (heads_are g a), bytes_in-split c.args.place c.args.heads.now.items, c.requires.whole)

pub take_back-requires-clause-fitting : goal.take_back-requires-clause-fitting
take_back-requires-clause-fitting g c =
    let a = (goal.at.take_back-requires-clause-fitting g c).After-count_bytes in
    subst (AreFitting (g.H.UndoHeap.version_of c.args.heap.now)) (sym (changes_are c.args.heads.now.items c.args.bytes.now.items c.split_at.result.1.now c.split_at-2.result.1.now c.deref-2.result.now c.args.place (c.len-len.result - c.count_bytes.result) (heads_are g a) (from_is g a) c.split_at-2.ensures.back c.deref-2.ensures.value))
    (fitting-drop (g.H.UndoHeap.version_of c.args.heap.now) c.args.place (changes_of c.args.heads.now.items c.args.bytes.now.items) c.requires.fitting)

pub take_back-requires-clause-within : goal.take_back-requires-clause-within
take_back-requires-clause-within g c =
    let a = (goal.at.take_back-requires-clause-within g c).After-count_bytes in
    let same = changes_are c.args.heads.now.items c.args.bytes.now.items c.split_at.result.1.now c.split_at-2.result.1.now c.deref-2.result.now c.args.place (c.len-len.result - c.count_bytes.result) (heads_are g a) (from_is g a) c.split_at-2.ensures.back c.deref-2.ensures.value in
    subst (λ (cs : List Change). held (patched cs (g.H.UndoHeap.state c.args.heap.now).live) ≤ g.H.UndoHeap.quota_of c.args.heap.now) (sym same) c.requires.within

pub returns-clause-live : goal.returns-clause-live
returns-clause-live g c =
    let a = (goal.at.returns-clause-live g c).After-count_bytes in
    let same = changes_are c.args.heads.now.items c.args.bytes.now.items c.split_at.result.1.now c.split_at-2.result.1.now c.deref-2.result.now c.args.place (c.len-len.result - c.count_bytes.result) (heads_are g a) (from_is g a) c.split_at-2.ensures.back c.deref-2.ensures.value in
    c.take_back.ensures.live ∙ ap (λ (cs : List Change). patched cs (g.H.UndoHeap.state c.args.heap.now).live) same

pub returns-clause-bytes : goal.returns-clause-bytes
returns-clause-bytes g c =
    let a = (goal.at.returns-clause-bytes g c).After-count_bytes in
    c.truncate-2.ensures.items ∙ ap (λ n. take n c.args.bytes.now.items) (from_is g a)
