use Rattle.std.proofs.Common.{arith}
use Rattle.dym_pool.specs.Holdings.{IsFinished}
use Rattle.dym_pool.proofs.Zips.{through_all}
use Rattle.dym_pool.proofs.workers.finish_all.Goals as goal

pub returns : goal.returns
returns g c = record { finished = through_all IsFinished c.loop-place.place c.args.shares.now.items c.loop-place.shares.items (omega arith) c.loop-place.invariant }
