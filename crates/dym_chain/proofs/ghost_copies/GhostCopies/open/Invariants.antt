use Rattle.dym_chain.proofs.ghost_copies.GhostCopies.open.Given as goal

abbrev pub ghost-of_ghost : goal.ghost-of_ghost
ghost-of_ghost g a = g.whole
