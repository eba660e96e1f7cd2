use Rattle.std.proofs.Common.{◌≡◌, ◌+◌, ◌≤◌, vec_len, vec_capacity}
use Rattle.dym_quota.proofs.own_supply.lay_aside.Given as goal

abbrev pub invariant-loop-aside : goal.invariant-loop-aside
invariant-loop-aside l = record {
  count : l.count ≤ vec_len l.spare;
  all : vec_len l.aside + vec_len l.spare ≡ vec_len l.initial.aside + vec_len l.initial.spare;
  room : vec_capacity l.spare ≡ vec_capacity l.initial.spare;
  same_room : vec_capacity l.aside ≡ vec_capacity l.initial.aside;
}

abbrev pub decreases-loop-aside : goal.decreases-loop-aside
decreases-loop-aside l = goal.left-loop-aside l
