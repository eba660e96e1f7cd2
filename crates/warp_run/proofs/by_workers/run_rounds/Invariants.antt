use Rattle.std.proofs.Common.{◌≡◌, ◌≤◌, ◌-◌, List, [], map}
use Rattle.warp_worker.specs.Workers.{Cell, worker_face}
use Rattle.warp_run.specs.Worlds.{IsWorld}
use Rattle.warp_run.proofs.by_workers.run_rounds.Given as goal

abbrev pub invariant-loop-rounds : goal.invariant-loop-rounds
invariant-loop-rounds g l = record {
  within : l.bound ≤ l.rounds.end;
  model : l.rounds.model.now ≡ l.fn.start.model.now;
  end : l.rounds.end ≡ l.fn.start.end;
  world : (cells : List (Cell g.row.M-Payload.Denot g.row.M-State.Denot)) × IsWorld g.M.Payload.Payload.words (g.M.Simulation.behaviour l.rounds.model.now) (g.M.Simulation.processes l.rounds.model.now) l.bound l.rounds.end cells (map (worker_face g.K.StateSaver.state g.K.StateSaver.copies) l.rounds.lanes.items) [];
}

abbrev pub decreases-loop-rounds : goal.decreases-loop-rounds
decreases-loop-rounds g l = l.rounds.end - l.bound
