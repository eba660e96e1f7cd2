use Rattle.warp_worker.specs.Workers.{worker_face}
use Rattle.warp_worker.proofs.Times.{IsNoted}
use Rattle.warp_worker.proofs.worker.Worker.note_times.Given as goal

abbrev pub invariant-loop-place : goal.invariant-loop-place
invariant-loop-place g l = IsNoted (worker_face g.K.StateSaver.state g.K.StateSaver.copies l.self) l.committed l.place l.initial.times l.times
