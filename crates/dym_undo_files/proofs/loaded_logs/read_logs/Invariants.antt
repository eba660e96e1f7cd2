use Rattle.dym_undo_files.proofs.loaded_logs.read_logs.Given as goal

abbrev pub ghost-tell_found : goal.ghost-tell_found
ghost-tell_found g a = g.told
