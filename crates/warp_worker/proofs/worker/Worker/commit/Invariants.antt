use Rattle.std.proofs.Common.{◌≡◌, ℕ, length, take}
use Rattle.warp_base.specs.Events.{Each, AreFrom}
use Rattle.warp_process.specs.Processes.{ProcessFace}
use Rattle.warp_worker.specs.Workers.{worker_face, IsReady}
use Rattle.warp_worker.specs.Moves.{Commits, IsDue}
use Rattle.warp_worker.proofs.worker.Worker.commit.Given as goal

abbrev pub invariant-loop-place : goal.invariant-loop-place
invariant-loop-place g l =
    Commits g.P.Payload.words (g.M.Simulation.behaviour l.order.model.now) (worker_face g.K.StateSaver.state g.K.StateSaver.copies l.initial.self) (worker_face g.K.StateSaver.state g.K.StateSaver.copies l.self)
    × Each (IsReady l.order.bound l.order.bound l.order.end) (worker_face g.K.StateSaver.state g.K.StateSaver.copies l.self).processes
    × Each (λ (f : ProcessFace g.row.P.Denot g.row.K-State.Denot). AreFrom l.order.bound f.early) (worker_face g.K.StateSaver.state g.K.StateSaver.copies l.self).processes
    × Each (IsDue l.order.bound l.order.end) (take l.place (worker_face g.K.StateSaver.state g.K.StateSaver.copies l.self).processes)
    × (length l.self.processes.items ≡ length l.initial.self.processes.items)
    × (l.self ≡ record l.initial.self { processes = l.self.processes; committed = l.self.committed })
