use Rattle.std.proofs.Common.{[]}
use Rattle.dym_undo.proofs.undo_log.UndoLog.open.Given as goal

abbrev pub ghost-open : goal.ghost-open
ghost-open a = []
