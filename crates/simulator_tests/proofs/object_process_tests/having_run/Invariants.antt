use Rattle.std.proofs.Common.{ℕ, [], ◌∷◌}
use Rattle.warp_object.specs.Processes.{IsRecorded}
use Rattle.simulator_tests.proofs.object_process_tests.having_run.Given as goal

abbrev pub invariant-loop-event : goal.invariant-loop-event
invariant-loop-event g l = IsRecorded (λ (w : ℕ). w ∷ []) l.bench.process
