use Rattle.std.proofs.Common.{◌≡◌, vec_len}
use Rattle.simulator_tests.proofs.lane_tests.counted.Given as goal

abbrev pub invariant-loop-lane : goal.invariant-loop-lane
invariant-loop-lane g l = vec_len l.lanes ≡ l.lane
