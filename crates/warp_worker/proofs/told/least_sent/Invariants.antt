use Rattle.std.proofs.Common.{take}
use Rattle.warp_base.specs.Messages.{AreMessagesFrom}
use Rattle.warp_worker.specs.Moves.{TellsLeast}
use Rattle.warp_worker.proofs.told.least_sent.Given as goal

abbrev pub invariant-loop-message : goal.invariant-loop-message
invariant-loop-message g l = TellsLeast (λ time. AreMessagesFrom time (take l.message-index l.messages)) l.least
