use Rattle.std.proofs.Common.{sym, subst}
use Rattle.warp_process.specs.Processes.{face, IsProcess}
use Rattle.warp_process.proofs.process.Process.take.Goals as goal
use Rattle.warp_process.proofs.process.Process.take.Goals.{in-Event, in-Anti}

pub returns-in-Ok-clause-kept : goal.returns-in-Ok-clause-kept
returns-in-Ok-clause-kept g c b past h =
    elim c.match-message.branch [
      | in-Event w ↦ subst (λ p. IsProcess g.P.Payload.words b past (face g.K.StateSaver.state g.K.StateSaver.copies p)) (sym w.self-is) (w.take_event-taken.ensures.kept b past h)
      | in-Anti w ↦ subst (λ p. IsProcess g.P.Payload.words b past (face g.K.StateSaver.state g.K.StateSaver.copies p)) (sym w.self-is) (w.take_anti-taken.ensures.kept b past h)
    ]
