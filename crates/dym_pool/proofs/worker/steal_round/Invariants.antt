use Rattle.std.proofs.Common.{◌<◌, ◌≡◌, vec_len}
use Rattle.std.specs.List.{AllZip}
use Rattle.dym_pool.specs.Holdings.{KeepsShare}
use Rattle.dym_pool.proofs.worker.steal_round.Given as goal

abbrev pub invariant-loop : goal.invariant-loop
invariant-loop g l = record {
  keeps : AllZip KeepsShare l.initial.reaches.items l.reaches.items;
  inside : l.place < l.count;
  all : l.count ≡ vec_len l.reaches;
}
