use Rattle.std.proofs.Common.{List, map}
use Rattle.warp_process.specs.Processes.{face}
use Rattle.warp_worker.specs.Workers.{Cell, IsWorker, worker_face}
use Rattle.warp_worker.proofs.Endings.{EndedUpTo}
use Rattle.warp_worker.proofs.worker.Worker.finish.Given as goal

abbrev pub invariant-loop-process : goal.invariant-loop-process
invariant-loop-process g l =
    (cells : List (Cell g.row.P.Denot g.row.K-State.Denot)) → IsWorker g.P.Payload.words (g.M.Simulation.behaviour l.model) cells (worker_face g.K.StateSaver.state g.K.StateSaver.copies l.fn.self)
    → EndedUpTo g.P.Payload.words (g.M.Simulation.behaviour l.model) cells (map (face g.K.StateSaver.state g.K.StateSaver.copies) l.process-iterator.rest.items) l.fn.states.items l.states.items l.count l.failed
