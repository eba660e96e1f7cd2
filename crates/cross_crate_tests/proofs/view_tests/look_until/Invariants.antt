use Rattle.std.proofs.Common.{◌≡◌}
use Rattle.cross_crate_tests.proofs.view_tests.look_until.Given as goal

abbrev pub invariant-loop : goal.invariant-loop
invariant-loop l = l.viewer.history ≡ l.initial.viewer.history
