-- What is left to write is what waits on the page and the lines of the replies that are left.
use Rattle.std.proofs.Common.{arith}
use Rattle.dym_io.specs.Laws.{writes_stopped}
use Rattle.dym_report.specs.Replies.{reply_line}
use Rattle.dym_report.proofs.PageLines.{page_more, page_cut, page_last}
use Rattle.dym_report.proofs.reply.write_replies.Goals as goal

pub returns-in_err-add : goal.returns-in_err-add
returns-in_err-add g c =
    writes_stopped _ _ _ _ c.from_residual.ensures.0
    (page_cut reply_line c.args.replies.now _ _ _ _ _ _ _ c.loop-reply-test.true c.reply-item.is c.loop-reply.invariant c.in_err-add.ensures.stopped)

pub loop-reply-preserved : goal.loop-reply-preserved
loop-reply-preserved g c =
    page_more reply_line c.args.replies.now _ _ _ _ _ _ _ _ c.loop-reply-test.true c.reply-item.is c.loop-reply.invariant c.in_ok-add.ensures.added

pub returns : goal.returns
returns g c =
    page_last reply_line c.args.replies.now c.loop-reply.reply-index _ _ _ _ _ _ (omega (arith, c.loop-reply-test.false)) c.loop-reply.invariant c.write.ensures.written
