use Rattle.std.proofs.Common.{arith, length-take}
use Rattle.dymelor_top.proofs.ReadBlocks.{drained_more}
use Rattle.dymelor_top.proofs.blocks.drain.Goals as goal

pub pieces-preserved : goal.pieces-preserved
pieces-preserved g c =
    drained_more c.args.pulled (g.R.Source.left c.args.source.now) (g.R.Source.left c.pieces.source) (g.R.Source.left c.pull.new.self)
    (g.R.Source.faults c.args.source.now) (g.R.Source.faults c.pieces.source) (g.R.Source.faults c.pull.new.self) (g.R.Source.goes_on c.pieces.source)
    (g.R.Source.goes_on c.pull.new.self)
    c.pieces.all c.in_ok-amount.amount c.pull.new.out c.pieces.invariant c.in_ok-amount.ensures.taken c.in_ok-amount.ensures.amount
    (omega (arith, c.pull.auto.out, length-take c.min-room.result c.pieces.block, c.in_ok-amount.ensures.amount, c.min-room.ensures)) c.in_ok-amount.ensures.count
    (c.in_ok-amount.ensures.more (omega (arith, c.if-amount-eq0.false)))
