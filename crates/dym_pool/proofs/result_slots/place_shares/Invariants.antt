use Rattle.std.proofs.Common.{◌<◌, ℕ, All, length}
use Rattle.std.specs.List.{flat_map}
use Rattle.dym_pool.specs.Holdings.{Holding}
use Rattle.dym_pool.specs.Shares.{ResultsEnded}
use Rattle.dym_pool.proofs.result_slots.place_shares.Given as goal

abbrev pub invariant-loop-share : goal.invariant-loop-share
invariant-loop-share g l = record {
  places : ResultsEnded g.J.Job.number_of g.J.Job.left_of g.J.Job.origin_of (flat_map (λ (s : Holding g.row.J-Origin.Denot). s.hand) l.yielded) l.initial.slots l.slots;
  fits : All (λ (s : Holding g.row.J-Origin.Denot). All (λ (x : ℕ × g.row.J-Origin.Denot). x.0 < length l.initial.slots) s.hand) l.share-iterator.rest.items;
}
