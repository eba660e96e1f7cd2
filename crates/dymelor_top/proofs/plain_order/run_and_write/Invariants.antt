use Rattle.std.proofs.Common.{◌≡◌, drop}
use Rattle.dymelor_top.proofs.WrittenReplies.{Written}
use Rattle.dymelor_top.proofs.plain_order.run_and_write.Given as goal

abbrev pub invariant-loop-k : goal.invariant-loop-k
invariant-loop-k g l = record {
  written : Written l.initial.turn.object l.turn.object l.commands (drop l.k l.commands) l.page (g.W.Sink.output l.initial.sink) (g.W.Sink.output l.sink);
  count : l.turn.object.ran ≡ l.k;
}
