use Rattle.warp_object.proofs.moment.Moment.of.Given as goal

abbrev pub ghost-of_ghost : goal.ghost-of_ghost
ghost-of_ghost g a = g.whole
