use Rattle.simulator_tests.proofs.process_tests.has_failed.Goals as goal

pub has_failed-requires : goal.has_failed-requires
has_failed-requires g c = record {
  process = record {
    behaviour = g.M.Simulation.behaviour c.args.model.now;
    past = c.requires.0;
    looks_ahead = g.met.M.Simulation.looks_ahead c.args.model.now;
    process = c.requires.1;
  };
}
