use Rattle.std.proofs.Common.{ℕ, take}
use Rattle.warp_base.specs.Events.{Each}
use Rattle.warp_run.specs.Worlds.{IsNotBefore}
use Rattle.warp_run.proofs.rounds.least_next.Given as goal

abbrev pub invariant-loop-worker : goal.invariant-loop-worker
invariant-loop-worker g l = record {
  least : (time : ℕ) → IsNotBefore time l.least → Each (λ w. IsNotBefore time w.next) (take l.worker-index l.workers);
  one : (bound : ℕ) → Each (λ w. IsNotBefore bound w.next) l.workers → IsNotBefore bound l.least;
}
