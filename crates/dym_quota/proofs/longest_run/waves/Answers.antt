use Rattle.std.proofs.Common.{arith}
use Rattle.dym_quota.proofs.Runs.{range_more, stops}
use Rattle.dym_quota.proofs.longest_run.waves.Goals as goal

pub loop-end-preserved : goal.loop-end-preserved
loop-end-preserved c =
    let before = c.loop-end.invariant in
    let more = range_more c.args.quotas.now c.args.from c.loop-end.end before.begun (omega arith) in
    record {
      begun = omega arith;
      inside = omega arith;
      sums = omega arith;
    }

pub returns-else-quotas-end-clause-longest : goal.returns-else-quotas-end-clause-longest
returns-else-quotas-end-clause-longest c =
    let before = c.loop-end.invariant in
    stops c.args.quotas.now c.args.segments c.args.from c.loop-end.end c.loop-end.left before.begun (omega arith) before.sums (omega arith)
