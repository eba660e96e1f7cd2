use Rattle.std.proofs.Common.{ℕ, [], ◌∷◌}
use Rattle.warp_object.specs.Processes.{IsRecorded}
use Rattle.simulator_tests.proofs.object_process_tests.Bench.deliver.Given as goal

abbrev pub invariant-loop-count : goal.invariant-loop-count
invariant-loop-count g l = IsRecorded (λ (w : ℕ). w ∷ []) l.self.process
