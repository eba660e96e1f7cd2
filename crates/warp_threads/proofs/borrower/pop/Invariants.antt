use Rattle.std.proofs.Common.{◌≡◌, true, false, []}
use Rattle.crossbeam_queue.specs.Passes.{view, IsPassOf}
use Rattle.warp_threads.specs.Loans.{holding}
use Rattle.warp_threads.proofs.borrower.pop.Given as goal

abbrev pub invariant-loop : goal.invariant-loop
invariant-loop g l = IsPassOf l.queue l.pass × (view l.pass ≡ holding false true [] [])
