use Rattle.std.proofs.Common.{◌≡◌, ℕ, length, take}
use Rattle.warp_base.specs.Events.{Each}
use Rattle.warp_worker.specs.Workers.{worker_face}
use Rattle.warp_worker.specs.Moves.{IsPendingFrom, all_to_run}
use Rattle.warp_worker.proofs.Loops.{Goes}
use Rattle.warp_worker.proofs.worker.Worker.run_due.Given as goal

abbrev pub invariant-loop-self : goal.invariant-loop-self
invariant-loop-self g l =
    Goes g.P.Payload.words (g.M.Simulation.behaviour l.order.model.now) l.order.bound l.order.end (g.M.Simulation.processes l.order.model.now) l.order.bound
    (worker_face g.K.StateSaver.state g.K.StateSaver.copies l.initial.self) l.initial.mail.items (worker_face g.K.StateSaver.state g.K.StateSaver.copies l.self) l.mail.items
    × (take l.place (worker_face g.K.StateSaver.state g.K.StateSaver.copies l.self).processes ≡ take l.place (worker_face g.K.StateSaver.state g.K.StateSaver.copies l.initial.self).processes)
    × (length l.self.processes.items ≡ length l.initial.self.processes.items)
    × (l.self ≡ record l.initial.self { processes = l.self.processes; queue = l.self.queue; counts = l.self.counts })

abbrev pub decreases-loop-self : goal.decreases-loop-self
decreases-loop-self g l = all_to_run (worker_face g.K.StateSaver.state g.K.StateSaver.copies l.self)
