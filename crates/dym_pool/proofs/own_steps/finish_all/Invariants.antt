use Rattle.std.proofs.Common.{◌≡◌, ◌-◌, length, vec_capacity}
use Rattle.crossbeam_deque.specs.Handles.{worker_view, SameWorker}
use Rattle.dym_pool.specs.Jobs.{boxed_labels, AllBoxedEnded}
use Rattle.dym_pool.proofs.own_steps.finish_all.Given as goal

abbrev pub invariant-loop-boxed : goal.invariant-loop-boxed
invariant-loop-boxed g l = record {
  same : SameWorker l.initial.deque l.deque;
  list : (worker_view l.deque).list ≡ (worker_view l.initial.deque).list;
  part : (worker_view l.deque).part ≡ 65;
  hand : boxed_labels g.J.Job.number_of g.J.Job.origin_of l.ended.items ≡ (worker_view l.deque).hand;
  room : vec_capacity l.ended ≡ vec_capacity l.initial.ended;
  ended : AllBoxedEnded g.J.Job.left_of l.ended.items;
}

-- how many of the share aren't in hand yet
abbrev pub decreases-loop-boxed : goal.decreases-loop-boxed
decreases-loop-boxed g l = length (worker_view l.initial.deque).list - length (worker_view l.deque).hand
