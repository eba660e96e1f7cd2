use Rattle.std.proofs.Common.{List}
use Rattle.warp_base.specs.declared.event.Event.{Event}
use Rattle.warp_process.specs.Processes.{face, IsProcess}
use Rattle.simulator_tests.proofs.process_tests.deliver.Given as goal

abbrev pub invariant-loop-count : goal.invariant-loop-count
invariant-loop-count g l = (past : List (Event g.row.M-Payload.Denot)) × IsProcess g.M.Payload.Payload.words (g.M.Simulation.behaviour l.model) past (face (λ k. k.state) (λ k. k.copies.items) l.process)
