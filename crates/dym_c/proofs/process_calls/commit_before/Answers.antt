use Rattle.std.proofs.Common.{◌≡◌, suc, arith}
use Rattle.dym_c.proofs.Exports.{committed_before}
use Rattle.dym_c.proofs.process_calls.commit_before.Goals as goal

pub returns-in-Some-clause-committed : goal.returns-in-Some-clause-committed
returns-in-Some-clause-committed c =
    let is : c.args.bound ≡ suc c.in-Some.last = omega (arith, c.in-Some.ensures) in
    committed_before c.args.state.now c.args.running.now c.commit.new.state c.commit.new.running c.args.committed.now.items
    c.commit.new.committed.items c.commit.result c.args.told.now c.commit.new.told c.args.bound c.in-Some.last is c.commit.ensures.committed
