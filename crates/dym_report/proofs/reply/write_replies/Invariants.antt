use Rattle.std.proofs.Common.{◌++◌, drop, flat_map}
use Rattle.dym_io.specs.Sink.{Leaves}
use Rattle.dym_report.specs.Replies.{reply_line}
use Rattle.dym_report.proofs.reply.write_replies.Given as goal

abbrev pub invariant-loop-reply : goal.invariant-loop-reply
invariant-loop-reply g l =
    Leaves (g.W.Sink.output l.initial.sink) (g.W.Sink.output l.sink) (flat_map reply_line l.fn.replies)
    (l.page ++ flat_map reply_line (drop l.reply-index l.replies))
