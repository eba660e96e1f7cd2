use Rattle.std.proofs.Common.{[], ◌∷◌, ◌++◌}
use Rattle.dym_base.specs.Objects.{found_touched}
use Rattle.dym_undo.proofs.undo_log.UndoLog.log.Given as goal

abbrev pub ghost-logged : goal.ghost-logged
ghost-logged g a =
    a.self.now.logs ++ record { time = a.time; depth = a.depth; copy = (g.H.UndoHeap.state a.heap.now).live; found = found_touched a.depth (g.H.UndoHeap.state a.heap.now).touched } ∷ []
