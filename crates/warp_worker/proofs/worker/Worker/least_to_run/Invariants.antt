use Rattle.std.proofs.Common.{take, map}
use Rattle.warp_base.specs.Events.{Each}
use Rattle.warp_process.specs.Processes.{face}
use Rattle.warp_worker.specs.Moves.{TellsLeast, IsPendingFrom}
use Rattle.warp_worker.proofs.worker.Worker.least_to_run.Given as goal

abbrev pub invariant-loop-process : goal.invariant-loop-process
invariant-loop-process g l = TellsLeast (λ time. Each (IsPendingFrom time) (map (face g.K.StateSaver.state g.K.StateSaver.copies) (take l.process-index l.self.processes.items))) l.least
