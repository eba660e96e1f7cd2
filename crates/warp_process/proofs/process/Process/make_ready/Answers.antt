use Rattle.warp_process.proofs.process.Process.make_ready.Goals as goal

pub save_if_due-requires-clause-process : goal.save_if_due-requires-clause-process
save_if_due-requires-clause-process g c =
    let past = c.requires.process.0 in
    record {
      behaviour = g.M.Simulation.behaviour c.args.model.now;
      past = past;
      looks_ahead = g.met.M.Simulation.looks_ahead c.args.model.now;
      process = c.in_ok-catch_up.ensures.kept past c.requires.process.1;
    }
