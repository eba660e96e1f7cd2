use Rattle.std.proofs.Common.{◌≡◌, ℕ, suc, ◌≤◌, min, ap, sym, ◌∙◌, arith}
use Rattle.warp_worker.specs.declared.worker.Worker.{Worker}
use Rattle.warp_worker.specs.Workers.{worker_face}
use Rattle.warp_worker.proofs.Loops.{goes_on}
use Rattle.warp_worker.proofs.Telling.{pending_down}
use Rattle.warp_worker.proofs.worker.Worker.run_ahead.Goals as goal

pub run_at-requires-clause-pending : goal.run_at-requires-clause-pending
run_at-requires-clause-pending g c =
    let bound = c.args.order.now.bound in
    let w = worker_face g.K.StateSaver.state g.K.StateSaver.copies c.events.self in
    pending_down w.processes bound (suc bound) (omega arith) (c.events.invariant.0.pending (suc bound) (omega arith) c.requires.pending)

pub run_at-requires-clause-next : goal.run_at-requires-clause-next
run_at-requires-clause-next g c =
    let h = c.in-Some.ensures in
    let soon = h.4 in
    let last = c.min-last.ensures in
    (h.0, h.1, h.2, h.3, omega (arith, soon, last))

pub events-preserved : goal.events-preserved
events-preserved g c =
    let words = g.P.Payload.words in
    let model = c.args.order.now.model.now in
    let b = g.M.Simulation.behaviour model in
    let n = g.M.Simulation.processes model in
    let bound = c.args.order.now.bound in
    let end = c.args.order.now.end in
    let h = c.events.invariant in
    let initial = c.args.self.now in
    let u = worker_face g.K.StateSaver.state g.K.StateSaver.copies initial in
    let w = worker_face g.K.StateSaver.state g.K.StateSaver.copies c.events.self in
    let ran = c.run_at.new.self in
    let x = worker_face g.K.StateSaver.state g.K.StateSaver.copies ran in
    let next = c.settle.new.self in
    let v = worker_face g.K.StateSaver.state g.K.StateSaver.copies next in
    let one = c.in_ok-run_at.ensures in
    let two = c.in_ok-settle.ensures in
    let mail = c.args.mail.now.items in
    let first = goes_on words b bound end n (suc bound) u w x mail c.events.mail.items c.run_at.new.mail.items h.0 one.moved one.midway (λ t soon all. one.pending t all) in (
      goes_on words b bound end n (suc bound) u x v mail c.run_at.new.mail.items c.settle.new.mail.items first two.moved two.midway two.pending,
      two.empty,
      two.count ∙ one.count ∙ h.2,
      two.rest ∙ ap (λ (s : Worker g.row.P.Denot g.row.K.Denot). record s { processes = next.processes; outbox = next.outbox; queue = next.queue; counts = next.counts }) one.rest
          ∙ ap (λ (s : Worker g.row.P.Denot g.row.K.Denot). record s { processes = next.processes; outbox = next.outbox; queue = next.queue; counts = next.counts }) h.3,
    )

pub returns-after-events-clause-pending : goal.returns-after-events-clause-pending
returns-after-events-clause-pending g c = c.events.invariant.0.pending (suc c.args.order.now.bound) (omega arith) c.requires.pending

pub returns-in_default-clause-pending : goal.returns-in_default-clause-pending
returns-in_default-clause-pending g c = c.events.invariant.0.pending (suc c.args.order.now.bound) (omega arith) c.requires.pending
