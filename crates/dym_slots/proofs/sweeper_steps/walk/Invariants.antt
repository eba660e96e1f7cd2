use Rattle.std.proofs.Common.{◌≡◌}
use Rattle.dym_slots.proofs.Rounds.{Round}
use Rattle.dym_slots.proofs.sweeper_steps.walk.Given as goal

abbrev pub invariant-loop-slot : goal.invariant-loop-slot
invariant-loop-slot l = (l.seat.table_id ≡ l.fn.seat.table_id) × (l.table ≡ l.fn.table) × Round l.root l.slot l.taken l.fn.seat.me l.seat.me
