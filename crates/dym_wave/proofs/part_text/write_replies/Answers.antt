-- What is left to write is what waits on the page and the lines of the replies that are left.
use Rattle.std.proofs.Common.{◌<◌, ◌≤◌, length, arith}
use Rattle.dym_base.specs.declared.reply.Reply.TheVariants.{Done}
use Rattle.dym_io.specs.Laws.{writes_stopped}
use Rattle.dym_report.specs.Replies.{reply_line}
use Rattle.dym_report.proofs.PageLines.{page_last}
use Rattle.dym_wave.proofs.KeptLines.{kept_more, kept_cut}
use Rattle.dym_wave.proofs.part_text.write_replies.Goals as goal

pub returns-in_err-add_reply : goal.returns-in_err-add_reply
returns-in_err-add_reply g c =
    let within : c.loop-k.k < length c.args.replies.now.replies = omega (arith, c.loop-k-test.true, c.len-k-end.ensures) in
    writes_stopped _ _ _ _ c.from_residual.ensures.0
    (kept_cut reply_line c.args.replies.now.replies Done c.loop-k.k c.loop-k.page _ _ _ _ within c.loop-k.invariant c.in_err-add_reply.ensures.stopped)

pub loop-k-preserved : goal.loop-k-preserved
loop-k-preserved g c =
    let within : c.loop-k.k < length c.args.replies.now.replies = omega (arith, c.loop-k-test.true, c.len-k-end.ensures) in
    kept_more reply_line c.args.replies.now.replies Done c.loop-k.k c.loop-k.page _ _ _ _ within c.loop-k.invariant c.add_reply.new.page c.in_ok-add_reply.ensures.added

pub returns : goal.returns
returns g c =
    let over : length c.args.replies.now.replies ≤ c.loop-k.k = omega (arith, c.loop-k-test.false, c.len-k-end.ensures) in
    page_last reply_line c.args.replies.now.replies c.loop-k.k _ _ _ _ _ _ over c.loop-k.invariant c.write.ensures.written
