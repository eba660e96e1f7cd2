use Rattle.warp_object.proofs.moment.Moment.same.Given as goal

abbrev pub ghost-like : goal.ghost-like
ghost-like a = a.self.now.seen
