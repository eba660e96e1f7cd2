use Rattle.warp_object.proofs.moment.Moment.after.Given as goal

abbrev pub ghost-of : goal.ghost-of
ghost-of a = (a.date, a.object.now.heap.state.live)
