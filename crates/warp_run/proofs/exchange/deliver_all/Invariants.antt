use Rattle.std.proofs.Common.{◌≡◌, map, drop}
use Rattle.warp_worker.specs.Workers.{worker_face}
use Rattle.warp_run.specs.Worlds.{StaysWorld}
use Rattle.warp_run.proofs.exchange.deliver_all.Given as goal

abbrev pub invariant-loop-message : goal.invariant-loop-message
invariant-loop-message g l = record {
  world : StaysWorld g.P.Payload.words (map (worker_face g.K.StateSaver.state g.K.StateSaver.copies) l.fn.workers.items) l.messages (map (worker_face g.K.StateSaver.state g.K.StateSaver.copies) l.workers.items) (drop l.message-index l.messages);
  outboxes : map (λ w. w.outbox.items) l.workers.items ≡ map (λ w. w.outbox.items) l.fn.workers.items;
}
