use Rattle.std.proofs.Common.{◌≡◌, []}
use Rattle.warp_threads.proofs.borrower.work.Given as goal

abbrev pub invariant-loop : goal.invariant-loop
invariant-loop g l = l.end ≡ []
