use Rattle.std.proofs.Common.{arith}
use Rattle.dym_pool.specs.Holdings.{KeepsShare}
use Rattle.dym_pool.proofs.Keeping.{keeps_none, keeps_both, keeps_parts}
use Rattle.dym_pool.proofs.Zips.{zip-length}
use Rattle.dym_pool.proofs.worker.steal_all.Goals as goal

pub loop-init : goal.loop-init
loop-init g c = keeps_none c.args.reaches.now.items

pub steal_round-requires-clause-number : goal.steal_round-requires-clause-number
steal_round-requires-clause-number g c κs within =
    omega (arith, c.requires.number, c.loop.reaches.ok.0, c.args.reaches.now.ok.0, zip-length KeepsShare c.args.reaches.now.items c.loop.reaches.items c.loop.invariant)

pub steal_round-requires-clause-parts : goal.steal_round-requires-clause-parts
steal_round-requires-clause-parts g c κs within = keeps_parts c.args.reaches.now.items c.loop.reaches.items c.loop.invariant c.requires.parts

pub returns-then-not-steal_round : goal.returns-then-not-steal_round
returns-then-not-steal_round g c = record { keeps = keeps_both c.args.reaches.now.items c.loop.reaches.items c.steal_round.new.reaches.items c.loop.invariant c.steal_round.ensures.keeps }

pub loop-preserved : goal.loop-preserved
loop-preserved g c = keeps_both c.args.reaches.now.items c.loop.reaches.items c.steal_round.new.reaches.items c.loop.invariant c.steal_round.ensures.keeps
