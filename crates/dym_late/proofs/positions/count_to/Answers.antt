use Rattle.std.proofs.Common.{◌+◌, ◌-◌, ◌/◌, ◌<◌, length, ℕ, arith}
use Rattle.dym_late.proofs.Searches.{stands_before, stands_behind}
use Rattle.dym_late.proofs.positions.count_to.Goals as goal

pub loop-low-preserved-then-event-time : goal.loop-low-preserved-then-event-time
loop-low-preserved-then-event-time c =
    let middle : ℕ = c.loop-low.low + (c.loop-low.high - c.loop-low.low) / 2 in
    let within : middle < length c.args.events.now = omega (arith, c.loop-low-test.true, c.loop-low.invariant.2) in
    (stands_before c.args.time c.args.events.now c.args.order.now c.requires middle c.index-events-order.result within c.index-events-order.is c.if-event-time.true, c.loop-low.invariant.1, c.loop-low.invariant.2)

pub loop-low-preserved : goal.loop-low-preserved
loop-low-preserved c =
    let middle : ℕ = c.loop-low.low + (c.loop-low.high - c.loop-low.low) / 2 in
    let within : middle < length c.args.events.now = omega (arith, c.loop-low-test.true, c.loop-low.invariant.2) in
    (c.loop-low.invariant.0, stands_behind c.args.time c.args.events.now c.args.order.now c.requires middle c.index-events-order.result within c.index-events-order.is c.if-event-time.false, omega (arith, within))
