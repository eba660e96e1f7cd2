use Rattle.std.proofs.Common.{◌≡◌, take}
use Rattle.warp_base.specs.Histories.{state_from}
use Rattle.warp_process.proofs.run.replay.Given as goal

abbrev pub invariant-loop-event : goal.invariant-loop-event
invariant-loop-event g l = record {
  state : g.K.StateSaver.state l.saver ≡ state_from (g.M.Simulation.behaviour l.model) l.number (g.K.StateSaver.state l.fn.saver) (take l.event-index l.events);
  copies : g.K.StateSaver.copies l.saver ≡ g.K.StateSaver.copies l.fn.saver;
}
