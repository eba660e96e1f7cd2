use Rattle.std.proofs.Common.{◌≡◌, ◌/◌, List, ℕ, length, sym, ap, subst, ◌∙◌, arith}
use Rattle.dym_base.specs.HeapStep.{key}
use Rattle.dym_undo.specs.Keys.{IsKey, with_stamp}
use Rattle.dym_undo.specs.UndoLogs.{UndoMeaning}
use Rattle.dym_undo.proofs.Keeping.{whole_slice}
use Rattle.dym_undo.proofs.Pushes.{own_key, short, head_room, byte_room, law_after, keeps_it}
use Rattle.dym_undo.proofs.undo_log.UndoLog.push.Goals as goal

pub push_live-requires-clause-short : goal.push_live-requires-clause-short
push_live-requires-clause-short g c =
    omega (arith, short c.self.invariant c.self.view_is c.requires.belongs c.args.handle (g.met.H.UndoHeap.sound_is_within c.args.heap.now c.requires.sound) c.requires.live c.live_is_key.ensures)

pub push_live-requires-clause-heads : goal.push_live-requires-clause-heads
push_live-requires-clause-heads g c =
    omega (
      arith,
      head_room c.self.invariant c.self.view_is c.requires.belongs c.args.handle (g.met.H.UndoHeap.sound_is_within c.args.heap.now c.requires.sound) c.requires.live c.live_is_key.ensures
          c.requires.logged c.requires.new,
    )

pub push_live-requires-clause-bytes : goal.push_live-requires-clause-bytes
push_live-requires-clause-bytes g c =
    byte_room c.self.invariant c.self.view_is c.requires.belongs c.args.handle (g.met.H.UndoHeap.sound_is_within c.args.heap.now c.requires.sound) c.requires.live c.live_is_key.ensures
    c.requires.logged c.requires.new

pub stamp-requires : goal.stamp-requires
stamp-requires g c =
    let whole = ap (λ (w : List ℕ). length w / 64) c.deref_mut.ensures.value in
    let words : length c.self.inside.words.items / 64 ≡ c.self.inside.quota = omega (arith, c.self.invariant.word_count) in
    subst (λ n. IsKey n (key c.args.handle)) (sym (whole ∙ words))
    (own_key c.self.invariant c.self.view_is c.requires.belongs c.args.handle (g.met.H.UndoHeap.sound_is_within c.args.heap.now c.requires.sound) c.requires.live c.live_is_key.ensures)

pub invariant_of-self : goal.invariant_of-self
invariant_of-self g c =
    let words = whole_slice c.self.inside.words.len c.stamp.new.words c.self.inside.words.items (c.stamp.auto.words ∙ ap length c.deref_mut.ensures.value) (omega arith) ∙ c.stamp.ensures
    ∙ ap (λ (w : List ℕ). with_stamp w (key c.args.handle)) c.deref_mut.ensures.value in
    law_after c.self.invariant c.self.view_is c.requires.belongs c.args.handle (g.met.H.UndoHeap.sound_is_within c.args.heap.now c.requires.sound) c.requires.live c.live_is_key.ensures
    c.requires.logged c.requires.new c.push_live.ensures.heads c.push_live.ensures.bytes words c.push_live.ensures.head_room c.push_live.ensures.byte_room

pub returns : goal.returns
returns g c =
    let it = keeps_it c.self.invariant c.self.view_is c.requires.belongs c.args.handle (g.met.H.UndoHeap.sound_is_within c.args.heap.now c.requires.sound) c.requires.live c.live_is_key.ensures
    c.requires.logged c.requires.new c.push_live.ensures.heads c.push_live.ensures.bytes in
    record { logs = ap (λ (u : UndoMeaning). u.logs) c.self.view_is; belongs = it.belongs; kept = it.kept; noted = it.noted; before = it.before }
