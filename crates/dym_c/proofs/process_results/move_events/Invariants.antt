use Rattle.std.proofs.Common.{◌≡◌, length, take, drop, map}
use Rattle.dym_c.specs.Events.{c_event}
use Rattle.dym_c.proofs.process_results.move_events.Given as goal

abbrev pub invariant-loop-place : goal.invariant-loop-place
invariant-loop-place l = (take l.place l.events ≡ map c_event (take l.place l.committed.items)) × (drop l.place l.events ≡ drop l.place l.fn.events)
    × (length l.events ≡ length l.fn.events)
