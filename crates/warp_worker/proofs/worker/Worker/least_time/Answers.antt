use Rattle.std.proofs.Common.{sym, subst}
use Rattle.warp_base.specs.Messages.{AreMessagesFrom}
use Rattle.warp_worker.specs.Workers.{worker_face, IsIdleUntil}
use Rattle.warp_worker.specs.Moves.{TellsLeast}
use Rattle.warp_worker.proofs.Telling.{idle_least}
use Rattle.warp_worker.proofs.worker.Worker.least_time.Goals as goal

pub returns : goal.returns
returns g c =
    let w = worker_face g.K.StateSaver.state g.K.StateSaver.copies c.args.self.now in
    subst (TellsLeast (IsIdleUntil w)) (sym c.lesser.ensures)
    (idle_least w c.least_to_run.result c.least_sent.result c.least_to_run.ensures (subst (λ l. TellsLeast (λ t. AreMessagesFrom t l) c.least_sent.result) c.deref.ensures.value c.least_sent.ensures))
