use Rattle.std.proofs.Common.{drop}
use Rattle.dym_undo.proofs.undo_log.UndoLog.prune.Given as goal

abbrev pub ghost-cut : goal.ghost-cut
ghost-cut a = drop a.gone a.self.now.logs
