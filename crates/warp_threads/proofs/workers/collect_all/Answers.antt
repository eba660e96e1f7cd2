use Rattle.std.proofs.Common.{arith, ◌∙◌}
use Rattle.warp_threads.proofs.Places.{back_none, back_lent, back_more, back_all, back_idle}
use Rattle.warp_threads.proofs.workers.collect_all.Goals as goal

pub loop-place-init : goal.loop-place-init
loop-place-init g c = record { back = λ lent e. back_none g.L.Lane.advances lent c.args.lanes.now.items c.args.lenders.now.items e; len = omega arith; threads = omega arith; room = omega arith }

pub collect-requires : goal.collect-requires
collect-requires g c =
    let so_far = c.loop-place.invariant.back c.requires.lent.0 c.requires.lent.1 in
    back_lent g.L.Lane.advances c.requires.lent.0 c.args.lanes.now.items c.loop-place.place c.loop-place.lenders.items c.loop-place.lanes.items so_far (omega (arith, c.loop-place.lenders.ok.0)) c.index_mut.result.now c.index_mut.ensures.value

pub loop-place-preserved : goal.loop-place-preserved
loop-place-preserved g c = record {
  back = λ lent e.
      back_more g.L.Lane.advances lent c.args.lanes.now.items c.loop-place.place c.loop-place.lenders.items c.loop-place.lanes.items (c.loop-place.invariant.back lent e) (omega (arith, c.loop-place.lenders.ok.0)) c.index_mut.result.now
      c.index_mut.ensures.value c.collect.result c.into_lane.result c.collect.new.self c.push_reserved.new.self.items c.collect.ensures.value c.into_lane.ensures c.collect.ensures.nothing_lent c.push_reserved.ensures.items;
  len = omega (arith, c.push_reserved.ensures.len);
  threads = c.loop-place.invariant.threads;
  room = c.push_reserved.ensures.capacity ∙ c.loop-place.invariant.room;
}

pub returns-clause-back : goal.returns-clause-back
returns-clause-back g c lent e =
    back_all g.L.Lane.advances lent c.args.lanes.now.items c.loop-place.place c.loop-place.lenders.items c.loop-place.lanes.items (c.loop-place.invariant.back lent e) (omega (arith, c.loop-place.lenders.ok.0))

pub returns-clause-nothing_lent : goal.returns-clause-nothing_lent
returns-clause-nothing_lent g c =
    let so_far = c.loop-place.invariant.back c.requires.lent.0 c.requires.lent.1 in
    back_idle g.L.Lane.advances c.requires.lent.0 c.args.lanes.now.items c.loop-place.place c.loop-place.lenders.items c.loop-place.lanes.items so_far (omega (arith, c.loop-place.lenders.ok.0))
