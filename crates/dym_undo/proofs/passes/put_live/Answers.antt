use Rattle.std.proofs.Common.{◌≡◌, ℕ, ◌+◌, ◌/◌, List, ◌∷◌, length, drop, get_or, sym, ap, ap₂, subst, ◌∙◌, arith, length-drop}
use Rattle.dym_base.specs.Heaps.{held}
use Rattle.dym_undo.specs.Changes.{Change}
use Rattle.dym_undo.specs.Heads.{bytes_in, len_of, change_of, changes_of}
use Rattle.dym_undo.specs.Passes.{Way, put_one, put_live, AreKeys, AreFitting, IsAmong}
use Rattle.dym_undo.specs.declared.head.Head.{Head}
use Rattle.dym_undo.proofs.Lists.{next}
use Rattle.dym_undo.proofs.Walks.{no_head, keys_next}
use Rattle.dym_undo.proofs.Decoding.{keys-changes_of}
use Rattle.dym_undo.proofs.Restoring.{put_within, among_next}
use Rattle.dym_undo.proofs.passes.put_live.Goals as goal

pub put_one-requires-clause-within : goal.put_one-requires-clause-within
put_one-requires-clause-within g c stamped =
    let i = c.loop-head.head-index in
    let hs : List Head = c.args.heads.now in
    let h : Head = get_or hs i no_head in
    let rest : List ℕ = c.loop-head.rest.now in
    let w : Way = record { words = c.loop-head.words; live = (g.H.UndoHeap.state c.loop-head.heap).live } in
    let cs : List Change = changes_of (drop (i + 1) hs) (drop (len_of h.len) rest) in
    let e : changes_of (drop i hs) rest ≡ change_of h rest ∷ cs = ap (λ (l : List Head). changes_of l rest) (next hs i no_head c.loop-head-test.true) in
    let limit : ℕ = length c.args.words.now / 64 in
    let same = g.met.H.UndoHeap.rest_quota c.args.heap.now c.loop-head.heap c.loop-head.invariant.rest in
    let whole : put_live (change_of h rest ∷ cs) w ≡ put_live (changes_of hs c.args.bytes.now) (record { words = c.args.words.now; live = (g.H.UndoHeap.state c.args.heap.now).live })
    = sym (ap (λ (l : List Change). put_live l w) e) ∙ c.loop-head.invariant.way in
    put_within (g.H.UndoHeap.quota_of c.loop-head.heap) limit (change_of h rest) cs w
    (subst (AreKeys limit) e (keys-changes_of limit (drop i hs) rest c.loop-head.invariant.keys))
    (omega (arith, c.loop-head.auto.words))
    stamped
    (g.met.H.UndoHeap.sound_is_within c.loop-head.heap c.loop-head.invariant.sound).within
    (omega (arith, same, c.requires.within, ap (λ (x : Way). held x.live) whole))
    (subst (λ (x : Way). IsAmong w.live x.live) (sym whole) c.loop-head.invariant.among)

pub loop-head-preserved : goal.loop-head-preserved
loop-head-preserved g c =
    let i = c.loop-head.head-index in
    let hs : List Head = c.args.heads.now in
    let h : Head = get_or hs i no_head in
    let rest : List ℕ = c.loop-head.rest.now in
    let w : Way = record { words = c.loop-head.words; live = (g.H.UndoHeap.state c.loop-head.heap).live } in
    let cs : List Change = changes_of (drop (i + 1) hs) (drop (len_of h.len) rest) in
    let heads : drop i hs ≡ h ∷ drop (i + 1) hs = next hs i no_head c.loop-head-test.true in
    let e : changes_of (drop i hs) rest ≡ change_of h rest ∷ cs = ap (λ (l : List Head). changes_of l rest) heads in
    let limit : ℕ = length c.args.words.now / 64 in
    let behind : c.bytes_after-rest.result.now ≡ drop (len_of h.len) rest = c.bytes_after-rest.ensures in
    let whole : put_live (change_of h rest ∷ cs) w ≡ put_live (changes_of hs c.args.bytes.now) (record { words = c.args.words.now; live = (g.H.UndoHeap.state c.args.heap.now).live })
    = sym (ap (λ (l : List Change). put_live l w) e) ∙ c.loop-head.invariant.way in
    record {
      sound = c.put_one.ensures.sound;
      keys = keys_next limit hs i c.loop-head-test.true c.loop-head.invariant.keys;
      fits = omega (arith, c.loop-head.invariant.fits, ap bytes_in heads, ap length behind, length-drop (len_of h.len) rest);
      fitting = subst (λ (b : List ℕ). AreFitting (g.H.UndoHeap.version_of c.args.heap.now) (changes_of (drop (i + 1) hs) b)) (sym behind) (subst (AreFitting (g.H.UndoHeap.version_of c.args.heap.now)) e c.loop-head.invariant.fitting).1;
      among = subst (λ (x : Way). IsAmong x.live (put_live (changes_of hs c.args.bytes.now) (record { words = c.args.words.now; live = (g.H.UndoHeap.state c.args.heap.now).live })).live) (sym c.put_one.ensures.way)
          (subst (λ (x : Way). IsAmong (put_one (change_of h rest) w).live x.live) whole
          (among_next limit (change_of h rest) cs w (subst (AreKeys limit) e (keys-changes_of limit (drop i hs) rest c.loop-head.invariant.keys)) (omega (arith, c.loop-head.auto.words))
          (subst (λ (x : Way). IsAmong w.live x.live) (sym whole) c.loop-head.invariant.among)));
      way = ap₂ (λ (b : List ℕ) (x : Way). put_live (changes_of (drop (i + 1) hs) b) x) behind c.put_one.ensures.way ∙ whole;
      touched = λ q is. c.loop-head.invariant.touched q (c.put_one.ensures.touched q is);
      rest = g.met.H.UndoHeap.rest_along _ _ _ c.loop-head.invariant.rest c.put_one.ensures.rest;
    }
