use Rattle.std.proofs.Common.{arith}
use Rattle.dym_heap.specs.Replies.{after_key}
use Rattle.dym_heap.proofs.NextLive.{none_before, none_after, next_here, none_left}
use Rattle.dym_heap.proofs.live_walk.next_from.Goals as goal

pub loop-exp-init : goal.loop-exp-init
loop-exp-init g c = record {
  least = c.start_of-exp.ensures.least;
  fits = c.start_of-exp.ensures.fits;
  start = c.start_of-exp.ensures.start;
  none = none_before c.args.shelf.now (after_key c.args.after) c.start_of-exp.result.0 c.start_of-exp.result.1 c.requires.valid_shelf c.start_of-exp.ensures.start c.start_of-exp.ensures.near;
}

pub returns-in-Some : goal.returns-in-Some
returns-in-Some g c =
    next_here c.args.shelf.now (after_key c.args.after) c.loop-exp.exp c.loop-exp.from c.in-Some.index c.loop-exp.invariant.start c.loop-exp.invariant.none c.in-Some.ensures

pub loop-exp-preserved : goal.loop-exp-preserved
loop-exp-preserved g c =
    let start = c.loop-exp.invariant.start in
    let fits = c.loop-exp.invariant.fits in
    let least = c.loop-exp.invariant.least in
    record {
      least = omega arith;
      fits = omega arith;
      start = omega arith;
      none = none_after c.args.shelf.now (after_key c.args.after) c.loop-exp.exp c.loop-exp.from c.loop-exp.invariant.none c.in_default.ensures;
    }

pub returns : goal.returns
returns g c k a = none_left c.args.shelf.now (after_key c.args.after) c.loop-exp.exp c.loop-exp.from k c.requires.valid_shelf (omega arith) c.loop-exp.invariant.none a
