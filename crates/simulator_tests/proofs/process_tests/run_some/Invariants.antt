use Rattle.std.proofs.Common.{List}
use Rattle.warp_base.specs.declared.event.Event.{Event}
use Rattle.warp_process.specs.Processes.{face, IsProcess}
use Rattle.simulator_tests.proofs.process_tests.run_some.Given as goal

abbrev pub invariant-loop : goal.invariant-loop
invariant-loop g l = (past : List (Event g.row.M-Payload.Denot)) × IsProcess g.M.Payload.Payload.words (g.M.Simulation.behaviour l.model) past (face (λ k. k.state) (λ k. k.copies.items) l.process)
