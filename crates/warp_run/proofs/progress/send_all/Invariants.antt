-- So far the queue has those of the drafts that were passed.
use Rattle.std.proofs.Common.{◌≡◌, take}
use Rattle.warp_base.specs.Histories.{stamped}
use Rattle.warp_base.specs.Sequential.{all_queued}
use Rattle.warp_run.proofs.progress.send_all.Given as goal

abbrev pub invariant-loop-i : goal.invariant-loop-i
invariant-loop-i g l = l.queue ≡ all_queued g.P.Payload.words (stamped l.sender l.serial (take l.i l.drafts)) l.initial.queue
