use Rattle.std.proofs.Common.{◌≡◌, [], map, take, length}
use Rattle.warp_base.specs.Events.{Each}
use Rattle.warp_worker.specs.Workers.{worker_face}
use Rattle.warp_run.specs.Worlds.{StaysWorld}
use Rattle.warp_run.proofs.exchange.exchange_all.Given as goal

abbrev pub invariant-loop-place : goal.invariant-loop-place
invariant-loop-place g l = record {
  world : StaysWorld g.P.Payload.words (map (worker_face g.K.StateSaver.state g.K.StateSaver.copies) l.fn.workers.items) [] (map (worker_face g.K.StateSaver.state g.K.StateSaver.copies) l.workers.items) [];
  empty : Each (λ o. o ≡ []) (take l.place (map (λ w. w.outbox.items) l.workers.items));
  count : length l.workers.items ≡ length l.fn.workers.items;
}
