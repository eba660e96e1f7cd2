-- Each command's line waits on the page until it is written.
use Rattle.std.proofs.Common.{◌≡◌, arith}
use Rattle.dym_io.specs.Laws.{writes_or_stopped}
use Rattle.dym_report.specs.declared.write_fail.WriteFail.TheVariants as fail
use Rattle.dymelor_top.proofs.CommandFacts.{none_behind, ran_counted}
use Rattle.dymelor_top.proofs.WrittenReplies.{ran_more, ran_cut, written_all, written_last_cut, ended}
use Rattle.dymelor_top.proofs.plain_order.run_and_write.Goals as goal

pub returns-in_err-add-clause-replies : goal.returns-in_err-add-clause-replies
returns-in_err-add-clause-replies g c =
    writes_or_stopped (λ failed. failed ≡ fail.Sink) _ _ _ _ c.from_residual-in_err-add.ensures.1
    (ran_cut c.args.commands.now c.loop-k.k c.args.turn.now.object c.loop-k.turn.object c.run.new.runner.object c.loop-k.page c.run.new.runner.reply
    (g.W.Sink.output c.args.sink.now) (g.W.Sink.output c.loop-k.sink) (g.W.Sink.output c.add.new.sink)
    (omega (arith, c.loop-k-test.true, c.len-k-end.ensures.length)) c.loop-k.invariant.written c.in_ok-run.ensures.does c.in_err-add.ensures.stopped)

pub loop-k-preserved : goal.loop-k-preserved
loop-k-preserved g c =
    record {
      written = ran_more c.args.commands.now c.loop-k.k c.args.turn.now.object c.loop-k.turn.object c.run.new.runner.object c.loop-k.page c.run.new.runner.reply
          (g.W.Sink.output c.args.sink.now) (g.W.Sink.output c.loop-k.sink) (g.W.Sink.output c.add.new.sink)
          (omega (arith, c.loop-k-test.true, c.len-k-end.ensures.length)) c.loop-k.invariant.written c.in_ok-run.ensures.does
          c.add.new.self c.in_ok-add.ensures.added;
      count = ran_counted c.args.commands.now c.loop-k.k c.loop-k.turn.object c.run.new.runner.object c.run.new.runner.reply
          (omega (arith, c.loop-k-test.true, c.len-k-end.ensures.length)) c.in_ok-run.ensures.does c.loop-k.invariant.count;
    }

pub returns-in_err-write-clause-replies : goal.returns-in_err-write-clause-replies
returns-in_err-write-clause-replies g c =
    let none = none_behind c.args.commands.now c.loop-k.k (omega (arith, c.loop-k-test.false, c.len-k-end.ensures.length)) in
    writes_or_stopped (λ failed. failed ≡ fail.Sink) _ _ _ _ c.from_residual-in_err-write.ensures.1
    (written_last_cut c.args.turn.now.object c.loop-k.turn.object c.args.commands.now _ c.loop-k.page (g.W.Sink.output c.args.sink.now)
    (g.W.Sink.output c.loop-k.sink) c.loop-k.invariant.written none
    (g.W.Sink.output c.write.new.sink) c.in_err-write.ensures.written)

pub returns-clause-replies : goal.returns-clause-replies
returns-clause-replies g c =
    let none = none_behind c.args.commands.now c.loop-k.k (omega (arith, c.loop-k-test.false, c.len-k-end.ensures.length)) in
    written_all c.args.turn.now.object c.loop-k.turn.object c.args.commands.now _ c.loop-k.page (g.W.Sink.output c.args.sink.now) (g.W.Sink.output c.loop-k.sink)
    c.loop-k.invariant.written none
    (g.W.Sink.output c.write.new.sink) c.in_ok-write.ensures.written

pub returns-clause-state : goal.returns-clause-state
returns-clause-state g c =
    let none = none_behind c.args.commands.now c.loop-k.k (omega (arith, c.loop-k-test.false, c.len-k-end.ensures.length)) in
    ended c.args.turn.now.object c.loop-k.turn.object c.args.commands.now _ c.loop-k.page (g.W.Sink.output c.args.sink.now) (g.W.Sink.output c.loop-k.sink)
    c.loop-k.invariant.written none
