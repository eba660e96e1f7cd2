use Rattle.dym_base.specs.HeapStep.{key}
use Rattle.dym_heap.proofs.Chunks.{some_of}
use Rattle.dym_undo.proofs.Kept.{key_of}
use Rattle.dym_undo.proofs.rooms.live_is_key.Goals as goal

pub returns : goal.returns
returns g c =
    let some = some_of _ c.requires.live in
    key_of _ _ _ (key c.args.handle) some.0 (g.met.H.UndoHeap.sound_is_within c.args.heap.now c.requires.sound) some.1
