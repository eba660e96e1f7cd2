use Rattle.dym_undo.proofs.ghost_logs.GhostLogs.open.Given as goal

abbrev pub ghost-of_ghost : goal.ghost-of_ghost
ghost-of_ghost g a = g.whole
