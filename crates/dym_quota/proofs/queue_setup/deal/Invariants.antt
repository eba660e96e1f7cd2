use Rattle.std.proofs.Common.{◌≡◌, ◌+◌, ◌≤◌, [], length, map, take, sum, vec_len, vec_capacity, All}
use Rattle.std.specs.Arc.{arc_value}
use Rattle.crossbeam_queue.specs.Passes.{view, IsPassOf}
use Rattle.dym_quota.specs.Berths.{IsIdleBerth}
use Rattle.dym_quota.specs.QueueShape.{queue_name}
use Rattle.dym_quota.proofs.queue_setup.deal.Given as goal

abbrev pub invariant-loop-k : goal.invariant-loop-k
invariant-loop-k g l = record {
  queue : IsPassOf l.line l.keeper;
  quota : (view l.keeper).quota + sum (take l.k l.quotas) ≡ (view l.initial.keeper).quota;
  keeps_nothing : (view l.keeper).held ≡ [];
  stock : (view l.keeper).stock ≡ (view l.initial.keeper).stock;
  ends : All (λ end. arc_value end ≡ l.line) l.ends.items;
  count : vec_len l.ends + l.k ≡ length l.quotas;
  room : length l.quotas ≤ vec_capacity l.berths;
  made : vec_len l.berths ≡ l.k;
  quotas : map (λ b. b.quota) l.berths.items ≡ take l.k l.quotas;
  idle : All (IsIdleBerth (queue_name l.initial.keeper)) l.berths.items;
}
