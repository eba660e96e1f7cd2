use Rattle.std.proofs.Common.{◌≡◌, ℕ, ◌≤◌, [], ◌∷◌, ◌++◌, length, refl, ap, sym, subst, ◌∙◌, arith}
use Rattle.warp_worker.specs.declared.worker.Worker.{Worker}
use Rattle.warp_worker.specs.Workers.{worker_face}
use Rattle.warp_worker.proofs.Midway.{moves_then}
use Rattle.warp_worker.proofs.Loops.{goes_on, inbox_popped, last_arrives}
use Rattle.warp_worker.proofs.worker.Worker.take_inbox.Goals as goal

pub loop-message-preserved : goal.loop-message-preserved
loop-message-preserved g c =
    let words = g.P.Payload.words in
    let model = c.args.order.now.model.now in
    let b = g.M.Simulation.behaviour model in
    let bound = c.args.order.now.bound in
    let end = c.args.order.now.end in
    let n = g.M.Simulation.processes model in
    let h = c.loop-message.invariant in
    let initial = c.args.self.now in
    let u = worker_face g.K.StateSaver.state g.K.StateSaver.copies initial in
    let w = worker_face g.K.StateSaver.state g.K.StateSaver.copies c.loop-message.self in
    let at = worker_face g.K.StateSaver.state g.K.StateSaver.copies (record c.loop-message.self { inbox = c.pop.new.self }) in
    let next = c.deliver.new.self in
    let v = worker_face g.K.StateSaver.state g.K.StateSaver.copies next in
    let mail = c.loop-message.mail.items in
    let m = c.in-Some.message in
    let ok = c.in_ok-deliver.ensures in
    let moved = moves_then words b w at v mail (m ∷ mail) c.deliver.new.mail.items (inbox_popped words b w at [] mail m refl refl refl c.in-Some.ensures.items) ok.moved in
    let arrives = (last_arrives bound end n w at mail m refl refl c.in-Some.ensures.items h.0.midway).time in
    let inbox = ap (λ (s : Worker g.row.P.Denot g.row.K.Denot). s.inbox) ok.rest in (
      goes_on words b bound end n bound u w v c.args.mail.now.items mail c.deliver.new.mail.items h.0 moved ok.midway (λ t soon all. ok.pending t (omega (arith, soon, arrives)) all),
      ok.count ∙ h.1,
      ok.rest ∙ ap (λ (s : Worker g.row.P.Denot g.row.K.Denot). record s { processes = next.processes; inbox = c.pop.new.self; queue = next.queue; counts = next.counts }) h.2 ∙ ap (λ i. record initial { processes = next.processes; inbox = i; queue = next.queue; counts = next.counts }) (sym inbox),
    )
