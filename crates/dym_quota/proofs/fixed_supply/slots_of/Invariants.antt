use Rattle.std.proofs.Common.{◌≡◌, map, Some, vec_capacity}
use Rattle.dym_quota.proofs.fixed_supply.slots_of.Given as goal

abbrev pub invariant-loop-segment : goal.invariant-loop-segment
invariant-loop-segment l = record {
  slots : l.slots.items ≡ map Some l.yielded;
  room : vec_capacity l.slots ≡ vec_capacity l.fn.slots;
}
