use Rattle.std.proofs.Common.{◌≡◌, ℕ, ◌≤◌, ap, ◌∙◌, arith}
use Rattle.warp_worker.specs.declared.worker.Worker.{Worker}
use Rattle.warp_worker.specs.Workers.{worker_face}
use Rattle.warp_worker.proofs.Loops.{goes_on}
use Rattle.warp_worker.proofs.worker.Worker.run_due.Goals as goal

pub run_at-requires-clause-next : goal.run_at-requires-clause-next
run_at-requires-clause-next g c =
    let h = c.is_due.ensures.0 c.loop-self-test.true in
    let soon = h.4 in
    let until = c.requires.until in
    (h.0, h.1, h.2, h.3, omega (arith, soon, until))

pub loop-self-preserved : goal.loop-self-preserved
loop-self-preserved g c =
    let model = c.args.order.now.model.now in
    let bound = c.args.order.now.bound in
    let h = c.loop-self.invariant in
    let u = worker_face g.K.StateSaver.state g.K.StateSaver.copies c.args.self.now in
    let w = worker_face g.K.StateSaver.state g.K.StateSaver.copies c.loop-self.self in
    let next = c.run_at.new.self in
    let v = worker_face g.K.StateSaver.state g.K.StateSaver.copies next in
    let ok = c.in_ok-run_at.ensures in (
      goes_on g.P.Payload.words (g.M.Simulation.behaviour model) bound c.args.order.now.end (g.M.Simulation.processes model) bound u w v c.args.mail.now.items c.loop-self.mail.items c.run_at.new.mail.items h.0 ok.moved ok.midway (λ t soon all. ok.pending t all),
      ok.before ∙ h.1,
      ok.count ∙ h.2,
      ok.rest ∙ ap (λ (s : Worker g.row.P.Denot g.row.K.Denot). record s { processes = next.processes; queue = next.queue; counts = next.counts }) h.3,
    )

pub returns-clause-pending : goal.returns-clause-pending
returns-clause-pending g c = c.loop-self.invariant.0.pending c.args.order.now.bound (omega arith) c.requires.pending
