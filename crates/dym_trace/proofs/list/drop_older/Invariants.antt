use Rattle.std.proofs.Common.{◌≡◌, length}
use Rattle.dym_slots.specs.Slots.{HasNumber}
use Rattle.dym_slots.specs.SlotSteps.{from_number}
use Rattle.dym_slots.specs.SlotFacts.{NumbersRise}
use Rattle.dym_trace.proofs.list.drop_older.Given as goal

-- what is dropped is older than the number
abbrev pub invariant-loop-oldest : goal.invariant-loop-oldest
invariant-loop-oldest l = record {
  rises : NumbersRise l.list.items;
  kept : from_number l.number l.list.items ≡ from_number l.number l.initial.list.items;
  there : HasNumber l.initial.list.items l.number → HasNumber l.list.items l.number;
  back : HasNumber l.list.items l.number → HasNumber l.initial.list.items l.number;
}

abbrev pub decreases-loop-oldest : goal.decreases-loop-oldest
decreases-loop-oldest l = length l.list.items
