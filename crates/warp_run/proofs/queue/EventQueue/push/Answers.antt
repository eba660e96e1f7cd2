-- The heap holds one event more.
use Rattle.std.proofs.Common.{◌∙◌, ap}
use Rattle.std.specs.BinaryHeap.{heap_items}
use Rattle.warp_base.specs.Sequential.{queued}
use Rattle.warp_run.proofs.Sorted.{pushed}
use Rattle.warp_run.proofs.queue.EventQueue.push.Goals as goal

pub returns-clause-ok : goal.returns-clause-ok
returns-clause-ok g c =
    pushed g.P.Payload.words g.met.P.Payload.tells_apart (λ x. x.0) (record { 0 = c.args.event }) (heap_items c.self.inside.heap) (heap_items c.push.new.self) c.in_ok-push.ensures.permutation ∙ ap (queued g.P.Payload.words c.args.event) c.self.view_is
