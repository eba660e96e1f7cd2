use Rattle.simulator_tests.proofs.process_tests.commit_until.Goals as goal

pub is_settled-requires : goal.is_settled-requires
is_settled-requires g c = record {
  process = record {
    behaviour = g.M.Simulation.behaviour c.args._model.now;
    past = c.requires.0;
    looks_ahead = g.met.M.Simulation.looks_ahead c.args._model.now;
    process = c.requires.1;
  };
}

pub commit-requires-clause-process : goal.commit-requires-clause-process
commit-requires-clause-process g c = record {
  behaviour = g.M.Simulation.behaviour c.args._model.now;
  past = c.requires.0;
  looks_ahead = g.met.M.Simulation.looks_ahead c.args._model.now;
  process = c.requires.1;
}
