use Rattle.std.proofs.Common.{◌≡◌, ◌≤◌, All, vec_len, vec_capacity}
use Rattle.std.specs.Arc.{arc_value}
use Rattle.dym_quota.proofs.queue_setup.ends_of.Given as goal

abbrev pub invariant-loop-k : goal.invariant-loop-k
invariant-loop-k l = record {
  same : All (λ end. arc_value end ≡ arc_value l.line) l.ends.items;
  made : vec_len l.ends ≡ l._k;
  room : l.count ≤ vec_capacity l.ends;
}
