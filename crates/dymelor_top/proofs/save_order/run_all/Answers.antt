use Rattle.std.proofs.Common.{◌<◌, length, ◌∙◌, arith}
use Rattle.dymelor_top.proofs.CommandFacts.{ran_counted}
use Rattle.dymelor_top.proofs.SavedFacts.{run_more, run_heap, run_all_of}
use Rattle.dymelor_top.proofs.save_order.run_all.Goals as goal

pub loop-k-preserved : goal.loop-k-preserved
loop-k-preserved c =
    let commands = c.args.commands.now in
    let k = c.loop-k.k in
    let before = c.loop-k.turn.object in
    let after = c.run.new.runner.object in
    let within : k < length commands = omega (arith, c.loop-k-test.true, c.len-k-end.ensures.length) in
    let same = run_heap commands k before after c.run.new.runner.reply within c.in_ok-run.ensures.does in
    record {
      run = run_more c.runs_go_on.ensures.step commands k before after c.run.new.runner.reply within c.loop-k.invariant.run c.in_ok-run.ensures.does;
      count = ran_counted commands k before after c.run.new.runner.reply within c.in_ok-run.ensures.does c.loop-k.invariant.count;
      version = same.0 ∙ c.loop-k.invariant.version;
      quota = same.1 ∙ c.loop-k.invariant.quota;
    }

pub returns-clause-run : goal.returns-clause-run
returns-clause-run c =
    run_all_of c.args.commands.now c.loop-k.k c.loop-k.turn.object (omega (arith, c.loop-k-test.false, c.len-k-end.ensures.length)) c.loop-k.invariant.run
