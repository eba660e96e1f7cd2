use Rattle.std.proofs.Common.{◌≡◌, ◌≤◌, ◌-◌, length}
use Rattle.warp_base.specs.Events.{Each}
use Rattle.warp_run.proofs.rounds.Rounds.orders.Given as goal

abbrev pub invariant-loop-order : goal.invariant-loop-order
invariant-loop-order g l = record {
  alike : Each (λ o. (o.model.now ≡ l.self.model.now) × (o.bound ≡ l.bound) × (o.end ≡ l.self.end)) l.orders.items;
  count : length l.orders.items ≤ length l.self.lanes.items;
}

abbrev pub decreases-loop-order : goal.decreases-loop-order
decreases-loop-order g l = length l.self.lanes.items - length l.orders.items
