use Rattle.std.proofs.Common.{ℕ, [], ◌∷◌}
use Rattle.warp_object.specs.Processes.{IsRecorded}
use Rattle.simulator_tests.proofs.object_process_tests.replays_are_handed_out_without_the_next_event.Given as goal

abbrev pub invariant-loop-left : goal.invariant-loop-left
invariant-loop-left g l = IsRecorded (λ (w : ℕ). w ∷ []) l.bench.process
