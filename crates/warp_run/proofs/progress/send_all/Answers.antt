-- One draft more is stamped and queued.
use Rattle.std.proofs.Common.{◌∙◌, ◌+◌, ap}
use Rattle.warp_base.specs.Sequential.{queued}
use Rattle.warp_base.specs.Histories.{stamp}
use Rattle.warp_run.proofs.Standing.{queued_more}
use Rattle.warp_run.proofs.progress.send_all.Goals as goal

pub loop-i-preserved : goal.loop-i-preserved
loop-i-preserved g c =
    let words = g.P.Payload.words in
    c.in_ok-push.ensures.ok ∙ ap (λ e. queued words e c.loop-i.queue) c.stamp.ensures ∙ ap (queued words (stamp c.args.sender (c.args.serial + c.loop-i.i) c.index-drafts-i.result)) c.loop-i.invariant ∙ queued_more words c.args.sender c.args.serial c.loop-i.i c.args.drafts.now c.index-drafts-i.result c.args.queue.now c.loop-i-test.true c.index-drafts-i.is
