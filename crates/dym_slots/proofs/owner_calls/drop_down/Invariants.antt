use Rattle.std.proofs.Common.{◌≡◌, ◌≤◌, length, take}
use Rattle.dym_slots.specs.SeatViews.{owner_of}
use Rattle.dym_slots.specs.Orders.{HasLeft}
use Rattle.dym_slots.proofs.owner_calls.drop_down.Given as goal

abbrev pub invariant-loop-last : goal.invariant-loop-last
invariant-loop-last l =
    (l.seat.table_id ≡ l.fn.seat.table_id) × (l.table ≡ l.fn.table) × (l.order ≡ l.fn.order) × (l.numbers ≡ l.fn.numbers) × (l.kept ≤ l.last) × (l.last ≤ length l.numbers.items)
    × HasLeft (take l.last (owner_of l.fn.seat.me.0).list) l.fn.seat.me l.seat.me

abbrev pub decreases-loop-last : goal.decreases-loop-last
decreases-loop-last l = l.last
