use Rattle.dym_wave.proofs.HandingOver.{item_can, item_taken, item_refused, item_short}
use Rattle.dym_wave.proofs.WaveParts.{work_shown}
use Rattle.dym_wave.proofs.object_queue.hand_over.Goals as goal

pub take-requires-clause-can : goal.take-requires-clause-can
take-requires-clause-can g c =
    let t = g.C.Consumer in
    item_can t.can_take t.takes t.fails work_shown c.args.works.now c.loop-work.work-index c.work-item.result c.args.output.now c.loop-work.output
    c.loop-work-test.true c.work-item.is c.loop-work.invariant c.requires.can

pub returns-then-short : goal.returns-then-short
returns-then-short g c =
    let t = g.C.Consumer in
    item_short t.can_take t.takes t.fails work_shown c.args.works.now c.loop-work.work-index c.work-item.result c.args.output.now c.loop-work.output
    c.loop-work-test.true c.work-item.is c.loop-work.invariant

pub returns-in-Err : goal.returns-in-Err
returns-in-Err g c =
    let t = g.C.Consumer in
    item_refused t.can_take t.takes t.fails work_shown c.args.works.now c.loop-work.work-index c.work-item.result c.args.output.now c.loop-work.output
    c.loop-work-test.true c.work-item.is c.loop-work.invariant c.take.new.output c.in-Err.fail c.in-Err.ensures

pub loop-work-preserved : goal.loop-work-preserved
loop-work-preserved g c =
    let t = g.C.Consumer in
    item_taken t.can_take t.takes t.fails work_shown c.args.works.now c.loop-work.work-index c.work-item.result c.args.output.now c.loop-work.output
    c.loop-work-test.true c.work-item.is c.loop-work.invariant c.take.new.output c.in_default.ensures
