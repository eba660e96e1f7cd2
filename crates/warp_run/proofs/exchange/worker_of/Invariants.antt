use Rattle.std.proofs.Common.{◌≤◌, map, take}
use Rattle.warp_worker.specs.Workers.{total, worker_face}
use Rattle.warp_run.specs.Worlds.{process_count}
use Rattle.warp_run.proofs.exchange.worker_of.Given as goal

abbrev pub invariant-loop-place : goal.invariant-loop-place
invariant-loop-place g l = total process_count (take l.place (map (worker_face g.K.StateSaver.state g.K.StateSaver.copies) l.workers)) ≤ l.process
