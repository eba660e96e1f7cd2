use Rattle.std.proofs.Common.{◌≡◌, ◌+◌, [], sum_by, vec_len, All}
use Rattle.crossbeam_queue.specs.Passes.{view, IsPassOf}
use Rattle.dym_quota.specs.Berths.{IsIdleBerth}
use Rattle.dym_quota.specs.QueueShape.{queue_name}
use Rattle.dym_quota.proofs.queue_teardown.join_all.Given as goal

abbrev pub invariant-loop-berth : goal.invariant-loop-berth
invariant-loop-berth g l = record {
  queue : IsPassOf l.line l.keeper;
  quota : (view l.keeper).quota + sum_by (λ b. b.quota) l.berths.items ≡ (view l.initial.keeper).quota + sum_by (λ b. b.quota) l.initial.berths.items;
  holds_nothing : (view l.keeper).held ≡ [];
  stock : (view l.keeper).stock ≡ (view l.initial.keeper).stock;
  idle : All (IsIdleBerth (queue_name l.initial.keeper)) l.berths.items;
}

abbrev pub decreases-loop-berth : goal.decreases-loop-berth
decreases-loop-berth g l = vec_len l.berths
