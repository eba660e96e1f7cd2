use Rattle.simulator_tests.proofs.process_tests.take_one.Goals as goal

pub take-requires-clause-process : goal.take-requires-clause-process
take-requires-clause-process g c = record {
  behaviour = g.M.Simulation.behaviour c.args._model.now;
  past = c.requires.0;
  looks_ahead = g.met.M.Simulation.looks_ahead c.args._model.now;
  process = c.requires.1;
}
