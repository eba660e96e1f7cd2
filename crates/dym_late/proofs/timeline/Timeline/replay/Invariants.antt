use Rattle.std.proofs.Common.{◌≡◌, ◌+◌, ◌≤◌}
use Rattle.dym_late.specs.Timelines.{late_events, IsRun}
use Rattle.dym_late.proofs.timeline.Timeline.replay.Given as goal

abbrev pub invariant-loop-place : goal.invariant-loop-place
invariant-loop-place g l = record {
  run : IsRun l.place l.fn.self.bound l.self.events.items l.fn.self.order.items l.self.heap l.self.chain;
  events : late_events l.self.events.items ≡ late_events l.fn.self.events.items;
  order : l.self.order ≡ l.fn.self.order;
  bound : l.self.bound ≡ l.fn.self.bound;
  applied : l.self.heap.applied + l.start ≡ l.fn.self.heap.applied + l.place;
  made : l.self.chain.made + l.start ≤ l.fn.self.chain.made + l.place;
  quota : l.self.heap.quota ≡ l.fn.self.heap.quota;
  origin : l.self.heap.origin ≡ l.fn.self.heap.origin;
}
