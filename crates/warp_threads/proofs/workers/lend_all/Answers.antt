use Rattle.std.proofs.Common.{◌-◌, [], ◌∷◌, get_or, vec_len, arith, ◌∙◌, ap}
use Rattle.warp_threads.proofs.Places.{may_at, lent_none, lent_idle, lent_split, lent_more}
use Rattle.warp_threads.proofs.workers.lend_all.Goals as goal

pub loop-place-init : goal.loop-place-init
loop-place-init g c = record {
  lent = lent_none c.args.orders.now c.args.lenders.now.items c.args.lanes.now.items c.len-place.result (vec_len c.args.lanes.now) (omega (arith, c.args.lenders.now.ok.0));
  left = omega arith;
  place = omega arith;
  threads = omega arith;
  room = omega arith;
}

pub new-requires : goal.new-requires
new-requires g c =
    let so_far = c.loop-place.invariant.lent in
    let split = lent_split c.args.orders.now c.args.lenders.now.items c.args.lanes.now.items c.loop-place.place (c.loop-place.place - 1) (omega arith) c.loop-place.lenders.items (vec_len c.loop-place.lanes) c.loop-place.lanes.items so_far
    (omega (arith, c.args.lenders.now.ok.0)) c.take_last-lane.new.self.items c.take_last-lane.result c.len.result c.index-orders-len.result c.take_last-lane.ensures.items (omega arith) (omega arith) c.index-orders-len.is in
    may_at g.L.Lane.can_advance c.args.orders.now c.args.lanes.now.items c.take_last-lane.new.self.items so_far.lent c.take_last-lane.result c.index-orders-len.result c.len.result split (omega (arith, c.take_last-lane.new.self.ok.0)) (omega arith)
    c.index-orders-len.is c.requires.ready

pub lend-requires : goal.lend-requires
lend-requires g c =
    lent_idle c.args.orders.now c.args.lenders.now.items c.args.lanes.now.items c.loop-place.place (c.loop-place.place - 1) (omega arith) c.loop-place.lenders.items (vec_len c.loop-place.lanes) c.loop-place.lanes.items c.loop-place.invariant.lent
    (omega (arith, c.args.lenders.now.ok.0)) c.index_mut.result.now c.index_mut.ensures.value c.requires.nothing_lent

pub loop-place-preserved : goal.loop-place-preserved
loop-place-preserved g c = record {
  lent =
      lent_more c.args.orders.now c.args.lenders.now.items c.args.lanes.now.items c.loop-place.place (c.loop-place.place - 1) (omega arith) c.loop-place.lenders.items (vec_len c.loop-place.lanes) c.loop-place.lanes.items c.loop-place.invariant.lent
      (omega (arith, c.args.lenders.now.ok.0)) c.take_last-lane.new.self.items c.take_last-lane.result (vec_len c.take_last-lane.new.self) c.index-orders-len.result c.take_last-lane.ensures.items (omega arith) (omega arith)
      (c.index-orders-len.is ∙ ap (λ n. get_or c.args.orders.now n c.index-orders-len.result) c.len.ensures) c.lend.new.self (c.lend.ensures ∙ ap (λ x. x ∷ []) c.new.ensures);
  left = omega arith;
  place = omega arith;
  threads = omega arith;
  room = c.take_last-lane.ensures.capacity ∙ c.loop-place.invariant.room;
}
