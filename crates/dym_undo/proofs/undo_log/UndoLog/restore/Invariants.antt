use Rattle.std.proofs.Common.{take}
use Rattle.dym_undo.proofs.undo_log.UndoLog.restore.Given as goal

abbrev pub ghost-cut : goal.ghost-cut
ghost-cut g a = take a.kept a.self.now.logs
