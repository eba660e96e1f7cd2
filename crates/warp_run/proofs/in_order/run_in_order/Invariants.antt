-- So many events of the run in order were run, and no state was a fault.
use Rattle.std.proofs.Common.{◌≡◌, length}
use Rattle.warp_base.specs.Sequential.{sequential}
use Rattle.warp_run.specs.Ends.{IsSoundUntil}
use Rattle.warp_run.specs.Standing.{StandsAt}
use Rattle.warp_run.proofs.in_order.run_in_order.Given as goal

abbrev pub invariant-loop-committed : goal.invariant-loop-committed
invariant-loop-committed g l =
    let words = g.M.Payload.Payload.words in
    let b = g.M.Simulation.behaviour l.model in
    let n = g.M.Simulation.processes l.model in
    let run = sequential words b n l.end l.committed in
    record {
      stands : StandsAt n run l.progress.states.items l.progress.serials.items l.progress.queue;
      sound : IsSoundUntil words b n l.end l.committed;
      count : length run.ran ≡ l.committed;
    }
