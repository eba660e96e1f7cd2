use Rattle.dym_undo_files.proofs.loaded_logs.undo_of_chain.Given as goal

abbrev pub ghost-read_logs : goal.ghost-read_logs
ghost-read_logs g a = a.chain.now.logs
