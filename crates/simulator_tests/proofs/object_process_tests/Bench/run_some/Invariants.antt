use Rattle.std.proofs.Common.{ℕ, ◌≤◌, [], ◌∷◌}
use Rattle.warp_object.specs.Processes.{IsRecorded}
use Rattle.simulator_tests.proofs.object_process_tests.Bench.run_some.Given as goal

abbrev pub invariant-loop-handed_out : goal.invariant-loop-handed_out
invariant-loop-handed_out g l = IsRecorded (λ (w : ℕ). w ∷ []) l.self.process × (l.replayed ≤ l.handed_out)
