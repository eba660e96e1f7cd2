use Rattle.std.proofs.Common.{◌≡◌, vec_len}
use Rattle.simulator_tests.proofs.lane_tests.CountingRoundsDriverU64Total.drive.Given as goal

abbrev pub invariant-loop-round : goal.invariant-loop-round
invariant-loop-round g l = vec_len l.lanes ≡ vec_len l.initial.lanes
