use Rattle.dym_chain.proofs.ghost_copies.GhostCopies.read.Given as goal

abbrev pub ghost-of_records : goal.ghost-of_records
ghost-of_records g a = g.read_records
