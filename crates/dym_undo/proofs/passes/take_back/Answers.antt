use Rattle.std.proofs.Common.{◌≡◌, ℕ, ◌*◌, ◌/◌, ◌≤◌, List, length, sym, ap, subst, ◌∙◌, arith}
use Rattle.dym_base.specs.Heaps.{held}
use Rattle.dym_undo.specs.Changes.{Change, patched}
use Rattle.dym_undo.specs.Heads.{changes_of}
use Rattle.dym_undo.specs.Keys.{IsKey, is_stamped}
use Rattle.dym_undo.specs.Passes.{Way, take_dead, put_live, IsAmong}
use Rattle.dym_undo.proofs.Restoring.{passes-patched, passes-among, passes-unstamped, length-passes}
use Rattle.dym_undo.proofs.passes.take_back.Given as given
use Rattle.dym_undo.proofs.passes.take_back.Goals.{After-take_dead}
use Rattle.dym_undo.proofs.passes.take_back.Goals as goal

module _ (g : given.Over) (c : After-take_dead g) where
  abbrev w : Way
  w = record { words = c.args.words.now; live = (g.H.UndoHeap.state c.args.heap.now).live }

  abbrev limit : ℕ
  limit = length c.args.words.now / 64

  le : limit * 64 ≤ length c.args.words.now
  le = omega arith

  end : (put_live (changes_of c.args.heads.now c.args.bytes.now) (record { words = c.take_dead.new.words; live = (g.H.UndoHeap.state c.take_dead.new.heap).live })).live ≡ patched (changes_of c.args.heads.now c.args.bytes.now) w.live
  end =
      ap (λ (x : Way). (put_live (changes_of c.args.heads.now c.args.bytes.now) x).live) c.take_dead.ensures.way
      ∙ passes-patched limit c.args.heads.now c.args.bytes.now w c.requires.keys le c.requires.unstamped

pub put_live-requires-clause-within : goal.put_live-requires-clause-within
put_live-requires-clause-within g c =
    let a = (goal.at.put_live-requires-clause-within g c).After-take_dead in
    omega (arith, c.requires.within, ap held (end g a), g.met.H.UndoHeap.rest_quota _ _ c.take_dead.ensures.rest)

pub put_live-requires-clause-among : goal.put_live-requires-clause-among
put_live-requires-clause-among g c =
    let a = (goal.at.put_live-requires-clause-among g c).After-take_dead in
    subst (λ (x : Way). IsAmong x.live (put_live (changes_of c.args.heads.now c.args.bytes.now) x).live) (sym c.take_dead.ensures.way)
    (passes-among (limit g a) c.args.heads.now c.args.bytes.now (w g a) c.requires.keys (le g a) c.requires.unstamped)

pub returns-clause-live : goal.returns-clause-live
returns-clause-live g c = ap (λ (x : Way). x.live) c.put_live.ensures.way ∙ end g (goal.at.returns-clause-live g c).After-take_dead

pub returns-clause-unstamped : goal.returns-clause-unstamped
returns-clause-unstamped g c q is =
    let a = (goal.at.returns-clause-unstamped g c).After-take_dead in
    let cs : List Change = changes_of c.args.heads.now c.args.bytes.now in
    let words : c.put_live.new.words ≡ (put_live cs (take_dead c.args.heads.now (w g a))).words
    = ap (λ (x : Way). x.words) c.put_live.ensures.way ∙ ap (λ (x : Way). (put_live cs x).words) c.take_dead.ensures.way in
    let same : length c.put_live.new.words ≡ length c.args.words.now
    = ap length words ∙ length-passes (limit g a) c.args.heads.now c.args.bytes.now (w g a) c.requires.keys (le g a) c.requires.unstamped in
    ap (λ (ws : List ℕ). is_stamped ws q) words
    ∙ passes-unstamped (limit g a) c.args.heads.now c.args.bytes.now (w g a) c.requires.keys (le g a) c.requires.unstamped q (subst (λ n. IsKey (n / 64) q) same is)
