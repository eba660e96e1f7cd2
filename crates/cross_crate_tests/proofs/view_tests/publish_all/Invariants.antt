use Rattle.std.proofs.Common.{◌≡◌}
use Rattle.cross_crate_tests.proofs.view_tests.publish_all.Given as goal

abbrev pub invariant-loop-before : goal.invariant-loop-before
invariant-loop-before g l = l.publisher.history ≡ l.fn.publisher.history
