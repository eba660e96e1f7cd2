use Rattle.std.proofs.Common.{◌≡◌, ◌≤◌, ◌-◌, map}
use Rattle.warp_base.specs.Events.{Each}
use Rattle.warp_worker.specs.Workers.{IsOpened, total, worker_face}
use Rattle.warp_run.specs.Worlds.{AreContiguous, process_count}
use Rattle.warp_run.proofs.by_workers.open_lanes.Given as goal

abbrev pub invariant-loop-first : goal.invariant-loop-first
invariant-loop-first g l = record {
  opened : Each (IsOpened g.M.Payload.Payload.words (g.M.Simulation.behaviour l.model) (g.M.Simulation.processes l.model)) (map (worker_face g.K.StateSaver.state g.K.StateSaver.copies) l.lanes.items);
  contiguous : AreContiguous 0 (map (worker_face g.K.StateSaver.state g.K.StateSaver.copies) l.lanes.items);
  sum : total process_count (map (worker_face g.K.StateSaver.state g.K.StateSaver.copies) l.lanes.items) ≡ l.first;
  within : l.first ≤ l.count;
}

abbrev pub decreases-loop-first : goal.decreases-loop-first
decreases-loop-first g l = l.count - l.first
