use Rattle.std.proofs.Common.{take, map}
use Rattle.warp_base.specs.Events.{Each}
use Rattle.warp_process.specs.Processes.{ProcessFace, face, HasFailed}
use Rattle.warp_worker.proofs.worker.Worker.first_failed.Given as goal

abbrev pub invariant-loop-process : goal.invariant-loop-process
invariant-loop-process g l = Each (λ (f : ProcessFace g.row.P.Denot g.row.K-State.Denot). HasFailed f → ⊥) (map (face g.K.StateSaver.state g.K.StateSaver.copies) (take l.process-index l.self.processes.items))
