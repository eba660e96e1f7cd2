use Rattle.std.proofs.Common.{◌-◌, ◌≤◌, vec_len, max}
use Rattle.dym_quota.proofs.own_supply.stock_up.Given as goal

abbrev pub invariant-loop-alloc : goal.invariant-loop-alloc
invariant-loop-alloc l = record {
  more : vec_len l.initial.segments ≤ vec_len l.segments;
  most : vec_len l.segments ≤ max l.count (vec_len l.initial.segments);
}

abbrev pub decreases-loop-alloc : goal.decreases-loop-alloc
decreases-loop-alloc l = l.count - vec_len l.segments
