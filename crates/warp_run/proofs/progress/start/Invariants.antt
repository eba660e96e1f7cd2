-- The processes before this one have started, none of them in a fault.
use Rattle.std.proofs.Common.{◌≡◌, ℕ, ◌<◌, false}
use Rattle.warp_base.specs.Sequential.{first_run}
use Rattle.warp_run.specs.Standing.{StandsAt}
use Rattle.warp_run.proofs.progress.start.Given as goal

abbrev pub invariant-loop-process : goal.invariant-loop-process
invariant-loop-process g l =
    let b = g.M.Simulation.behaviour l.model in
    record {
      stands : StandsAt l.process (first_run g.M.Payload.Payload.words b l.process) l.progress.states.items l.progress.serials.items l.progress.queue;
      sound : (q : ℕ) → q < l.process → b.faulty (b.start q) ≡ false;
    }
