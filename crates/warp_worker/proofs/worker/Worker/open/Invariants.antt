use Rattle.std.proofs.Common.{◌≡◌, None, length, [], map}
use Rattle.warp_process.specs.Processes.{face}
use Rattle.warp_worker.specs.Workers.{IsOpened}
use Rattle.warp_worker.proofs.worker.Worker.open.Given as goal

abbrev pub invariant-loop-place : goal.invariant-loop-place
invariant-loop-place g l = record {
  opened : IsOpened g.P.Payload.words (g.M.Simulation.behaviour l.model) (g.M.Simulation.processes l.model) (record { first = l.first; processes = map (face g.K.StateSaver.state g.K.StateSaver.copies) l.processes.items; inbox = []; outbox = l.outbox.items; next = None; failed = None });
  count : length l.processes.items ≡ l.place;
}
