use Rattle.std.proofs.Common.{◌≡◌, true, false, []}
use Rattle.crossbeam_queue.specs.Passes.{view, IsPassOf}
use Rattle.warp_threads.specs.Loans.{holding}
use Rattle.warp_threads.proofs.lender.push.Given as goal

abbrev pub invariant-loop : goal.invariant-loop
invariant-loop g l = IsPassOf l.queue l.pass × (view l.pass ≡ holding true false [] []) × (l.value ≡ l.initial.value)
