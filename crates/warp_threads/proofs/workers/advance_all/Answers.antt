use Rattle.std.proofs.Common.{arith}
use Rattle.warp_threads.proofs.Places.{advanced_none, advanced_may, advanced_more, advanced_all}
use Rattle.warp_threads.proofs.workers.advance_all.Goals as goal

pub loop-place-init : goal.loop-place-init
loop-place-init g c = record { done = advanced_none g.L.Lane.advances c.args.orders.now c.args.lanes.now.items; len = omega arith; room = omega arith }

pub advance-requires : goal.advance-requires
advance-requires g c =
    advanced_may g.L.Lane.advances c.args.orders.now c.args.lanes.now.items c.loop-place.place c.loop-place.lanes.items c.loop-place.invariant.done (omega (arith, c.args.lanes.now.ok.0)) (omega (arith, c.args.lanes.now.ok.0))
    c.index-orders-place.result c.index_mut.result.now c.index-orders-place.is c.index_mut.ensures.value g.L.Lane.can_advance c.requires.ready

pub loop-place-preserved : goal.loop-place-preserved
loop-place-preserved g c = record {
  done =
      advanced_more g.L.Lane.advances c.args.orders.now c.args.lanes.now.items c.loop-place.place c.loop-place.lanes.items c.loop-place.invariant.done (omega (arith, c.args.lanes.now.ok.0)) (omega (arith, c.args.lanes.now.ok.0))
      c.index-orders-place.result c.index_mut.result.now c.index-orders-place.is c.index_mut.ensures.value c.advance.new.self c.advance.ensures;
  len = c.loop-place.invariant.len;
  room = c.loop-place.invariant.room;
}

pub returns-clause-advanced : goal.returns-clause-advanced
returns-clause-advanced g c = advanced_all g.L.Lane.advances c.args.orders.now c.args.lanes.now.items c.loop-place.place c.loop-place.lanes.items c.loop-place.invariant.done (omega (arith, c.args.lanes.now.ok.0))
