-- What is told of the chosen model is what the run of that model tells.
use Rattle.timewarp.proofs.report.simulate.Goals as goal

pub returns-in-Phold-clause-ok : goal.returns-in-Phold-clause-ok
returns-in-Phold-clause-ok g c = rw c.in-Phold.is c.simulate_model.ensures.ok

pub returns-in-Cells-clause-ok : goal.returns-in-Cells-clause-ok
returns-in-Cells-clause-ok g c = rw c.in-Cells.is c.simulate_model-in-Cells.ensures.ok

pub returns-in-Queues-clause-ok : goal.returns-in-Queues-clause-ok
returns-in-Queues-clause-ok g c = rw c.in-Queues.is c.simulate_model-in-Queues.ensures.ok
