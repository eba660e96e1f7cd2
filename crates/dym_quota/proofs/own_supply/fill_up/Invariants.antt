use Rattle.std.proofs.Common.{◌≡◌, ◌+◌, ◌≤◌, vec_len, vec_capacity}
use Rattle.dym_quota.proofs.own_supply.fill_up.Given as goal

abbrev pub invariant-loop-spare : goal.invariant-loop-spare
invariant-loop-spare l = record {
  few : vec_len l.spare ≤ l.count;
  all : vec_len l.aside + vec_len l.spare ≡ vec_len l.initial.aside + vec_len l.initial.spare;
  room : vec_capacity l.spare ≡ vec_capacity l.initial.spare;
}

abbrev pub decreases-loop-spare : goal.decreases-loop-spare
decreases-loop-spare l = goal.left-loop-spare l
