use Rattle.std.proofs.Common.{◌≡◌, ℕ, suc, ◌+◌, length}
use Rattle.warp_worker.specs.Workers.{worker_face}
use Rattle.warp_worker.specs.Moves.{all_sent_since}
use Rattle.warp_worker.proofs.Loops.{Goes}
use Rattle.warp_worker.proofs.worker.Worker.settle.Given as goal

abbrev pub invariant-loop-message : goal.invariant-loop-message
invariant-loop-message g l =
    Goes g.P.Payload.words (g.M.Simulation.behaviour l.order.model.now) l.order.bound l.order.end (g.M.Simulation.processes l.order.model.now) (suc l.order.bound)
    (worker_face g.K.StateSaver.state g.K.StateSaver.copies l.initial.self) l.initial.mail.items (worker_face g.K.StateSaver.state g.K.StateSaver.copies l.self) l.mail.items
    × (length l.self.processes.items ≡ length l.initial.self.processes.items)
    × (l.self ≡ record l.initial.self { processes = l.self.processes; outbox = l.self.outbox; queue = l.self.queue; counts = l.self.counts })

abbrev pub decreases-loop-message : goal.decreases-loop-message
decreases-loop-message g l = length l.mail.items + all_sent_since (worker_face g.K.StateSaver.state g.K.StateSaver.copies l.self)
