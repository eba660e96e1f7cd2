use Rattle.std.proofs.Common.{◌-◌, ◌≤◌, length}
use Rattle.dym_base.specs.LateRun.{events_to}
use Rattle.dym_late.specs.Timelines.{late_events}
use Rattle.dym_late.proofs.positions.count_to.Given as goal

abbrev pub invariant-loop-low : goal.invariant-loop-low
invariant-loop-low l = (l.low ≤ events_to l.time (late_events l.events)) × (events_to l.time (late_events l.events) ≤ l.high) × (l.high ≤ length l.events)

abbrev pub decreases-loop-low : goal.decreases-loop-low
decreases-loop-low l = l.high - l.low
