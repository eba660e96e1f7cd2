use Rattle.std.proofs.Common.{◌≡◌, All, length}
use Rattle.std.specs.List.{AllZip, flat_map}
use Rattle.dym_pool.specs.Holdings.{Holding, KeepsDeque}
use Rattle.dym_pool.specs.Jobs.{boxed_labels}
use Rattle.dym_pool.specs.Shares.{SameElements}
use Rattle.dym_pool.proofs.Dealing.{Deals}
use Rattle.dym_pool.proofs.distribution.distribute.Given as goal

abbrev pub invariant-loop-boxed : goal.invariant-loop-boxed
invariant-loop-boxed g l = record {
  same : SameElements (flat_map (λ (s : Holding g.row.J-Origin.Denot). s.list) l.shares.items) (boxed_labels g.J.Job.number_of g.J.Job.origin_of l.yielded);
  left : l.left ≡ length l.boxed-iterator.rest.items;
  deals : Deals (λ (s : Holding g.row.J-Origin.Denot). s.pushed) (λ s. s.room) l.shares.items l.left;
  ways : AllZip KeepsDeque l.initial.shares.items l.shares.items;
  loads : All (λ (s : Holding g.row.J-Origin.Denot). (s.pushed ≡ length s.list) × (s.part ≡ 65)) l.shares.items;
}
