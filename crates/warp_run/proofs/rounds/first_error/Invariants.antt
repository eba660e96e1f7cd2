use Rattle.std.proofs.Common.{◌≡◌, None, take}
use Rattle.warp_base.specs.Events.{Each}
use Rattle.warp_run.proofs.rounds.first_error.Given as goal

abbrev pub invariant-loop-worker : goal.invariant-loop-worker
invariant-loop-worker g l = Each (λ w. w.error ≡ None) (take l.worker-index l.workers)
