use Rattle.std.proofs.Common.{drop, subst, vec_len, arith}
use Rattle.std.specs.List.{zip}
use Rattle.warp_threads.specs.Rounds.{AllMayAdvance}
use Rattle.warp_threads.proofs.Places.{may_front, round_of}
use Rattle.warp_threads.proofs.workers.advance_in_threads.Goals as goal

pub advance_all-requires-clause-ready : goal.advance_all-requires-clause-ready
advance_all-requires-clause-ready g c =
    let lent = c.lend_all.ensures.lent in
    may_front g.L.Lane.can_advance c.args.orders.now c.lend_all.new.lanes.items lent.0 (subst (AllMayAdvance g.L.Lane.can_advance c.args.orders.now) lent.1 c.requires.ready)

pub returns-clause-advanced : goal.returns-clause-advanced
returns-clause-advanced g c =
    let lent = c.lend_all.ensures.lent in
    let back = c.collect_all.ensures.back (zip (drop (vec_len c.lend_all.new.lanes) c.args.orders.now) lent.0) lent.2 in
    round_of g.L.Lane.advances c.args.orders.now c.args.lanes.now.items c.lend_all.new.lanes.items lent.0 c.advance_all.new.lanes.items back.0 c.collect_all.new.lanes.items (vec_len c.lend_all.new.lanes)
    (omega (arith, c.lend_all.new.lanes.ok.0)) lent.1 (omega (arith, c.lend_all.new.lanes.ok.0)) c.advance_all.ensures.advanced back.1 back.2
