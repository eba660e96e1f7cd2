use Rattle.std.proofs.Common.{◌≡◌, vec_capacity}
use Rattle.dym_quota.specs.Bound.{present}
use Rattle.dym_quota.proofs.fixed_supply.segments_of.Given as goal

abbrev pub invariant-loop-slot : goal.invariant-loop-slot
invariant-loop-slot l = record {
  list : l.list.items ≡ present l.yielded;
  room : vec_capacity l.list ≡ vec_capacity l.fn.list;
}
