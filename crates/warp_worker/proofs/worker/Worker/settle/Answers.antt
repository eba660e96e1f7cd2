use Rattle.std.proofs.Common.{◌≡◌, ℕ, suc, [], ◌∷◌, ◌++◌, length, ap, sym, subst, ◌∙◌}
use Rattle.warp_worker.specs.declared.worker.Worker.{Worker}
use Rattle.warp_worker.specs.Workers.{worker_face}
use Rattle.warp_worker.specs.Moves.{Moves}
use Rattle.warp_worker.proofs.Midway.{moves_then}
use Rattle.warp_worker.proofs.Loops.{goes_on, mail_popped}
use Rattle.warp_worker.proofs.worker.Worker.settle.Goals as goal

pub loop-message-preserved : goal.loop-message-preserved
loop-message-preserved g c =
    let words = g.P.Payload.words in
    let model = c.args.order.now.model.now in
    let b = g.M.Simulation.behaviour model in
    let bound = c.args.order.now.bound in
    let h = c.loop-message.invariant in
    let u = worker_face g.K.StateSaver.state g.K.StateSaver.copies c.args.self.now in
    let w = worker_face g.K.StateSaver.state g.K.StateSaver.copies c.loop-message.self in
    let next = c.route.new.self in
    let v = worker_face g.K.StateSaver.state g.K.StateSaver.copies next in
    let front = c.pop.new.self.items in
    let m = c.in-Some.message in
    let ok = c.in_ok-route.ensures in
    let moved = subst (λ l. Moves words b w l v c.route.new.mail.items) (sym c.in-Some.ensures.items) (moves_then words b w w v (front ++ m ∷ []) (m ∷ front) c.route.new.mail.items (mail_popped words b w front m) ok.moved) in
    (goes_on words b bound c.args.order.now.end (g.M.Simulation.processes model) (suc bound) u w v c.args.mail.now.items c.loop-message.mail.items c.route.new.mail.items h.0 moved ok.midway ok.pending, ok.count ∙ h.1, ok.rest ∙ ap (λ (s : Worker g.row.P.Denot g.row.K.Denot). record s { processes = next.processes; outbox = next.outbox; queue = next.queue; counts = next.counts }) h.2)
