use Rattle.std.proofs.Common.{List, map}
use Rattle.warp_worker.specs.Workers.{Cell, worker_face}
use Rattle.warp_run.specs.Worlds.{AreWorkers}
use Rattle.warp_run.proofs.Finishing.{EndedUpTo}
use Rattle.warp_run.proofs.rounds.Rounds.finish.Given as goal

abbrev pub invariant-loop-lane : goal.invariant-loop-lane
invariant-loop-lane g l =
    (cells : List (Cell g.row.M-Payload.Denot g.row.M-State.Denot)) → AreWorkers g.M.Payload.Payload.words (g.M.Simulation.behaviour l.fn.self.model.now) cells (map (worker_face g.K.StateSaver.state g.K.StateSaver.copies) l.fn.self.lanes.items)
    → EndedUpTo g.M.Payload.Payload.words (g.M.Simulation.behaviour l.fn.self.model.now) cells (map (worker_face g.K.StateSaver.state g.K.StateSaver.copies) l.lane-iterator.rest.items) l.states.items l.committed
