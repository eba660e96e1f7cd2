use Rattle.std.proofs.Common.{◌++◌, drop, flat_map}
use Rattle.dym_io.specs.Sink.{Leaves}
use Rattle.dym_report.specs.Replies.{reply_line}
use Rattle.dym_wave.proofs.part_text.write_replies.Given as goal

abbrev pub invariant-loop-k : goal.invariant-loop-k
invariant-loop-k g l =
    Leaves (g.W.Sink.output l.initial.sink) (g.W.Sink.output l.sink) (flat_map reply_line l.replies.replies) (l.page ++ flat_map reply_line (drop l.k l.replies.replies))
