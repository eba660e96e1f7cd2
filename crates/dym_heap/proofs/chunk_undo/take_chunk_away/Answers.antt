use Rattle.dym_base.specs.HeapStep.{key}
use Rattle.dym_heap.proofs.HeapUndo.{taken_away}
use Rattle.dym_heap.proofs.chunk_undo.take_chunk_away.Goals as goal

pub returns-clause-after : goal.returns-clause-after
returns-clause-after g c = taken_away c.free_handle-was_live.new.shelf (key c.args.h) _ c.requires.tidy c.free_handle-was_live.ensures.live c.free_handle-was_live.ensures.after
