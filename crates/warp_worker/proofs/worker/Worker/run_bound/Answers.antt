use Rattle.std.proofs.Common.{◌≡◌, ℕ, suc, ◌+◌, ◌<◌, ◌≤◌, length, take, ap, sym, subst, ◌∙◌, arith}
use Rattle.std.proofs.lemmas.List.{length-map}
use Rattle.warp_base.specs.Events.{Each}
use Rattle.warp_process.specs.Processes.{face}
use Rattle.warp_worker.specs.declared.worker.Worker.{Worker}
use Rattle.warp_worker.specs.Workers.{worker_face}
use Rattle.warp_worker.specs.Moves.{IsPendingFrom}
use Rattle.warp_worker.proofs.Replaced.{process_at}
use Rattle.warp_worker.proofs.Loops.{goes_on, some_at, done_at, Each-take-next}
use Rattle.warp_worker.proofs.Telling.{pending_down}
use Rattle.warp_worker.proofs.worker.Worker.run_bound.Goals as goal

pub run_due-requires-clause-pending : goal.run_due-requires-clause-pending
run_due-requires-clause-pending g c = c.loop-place.invariant.0.pending c.args.order.now.bound (omega arith) c.requires.pending

pub loop-place-preserved : goal.loop-place-preserved
loop-place-preserved g c =
    let words = g.P.Payload.words in
    let model = c.args.order.now.model.now in
    let b = g.M.Simulation.behaviour model in
    let bound = c.args.order.now.bound in
    let h = c.loop-place.invariant in
    let see = face g.K.StateSaver.state g.K.StateSaver.copies in
    let u = worker_face g.K.StateSaver.state g.K.StateSaver.copies c.args.self.now in
    let w = worker_face g.K.StateSaver.state g.K.StateSaver.copies c.loop-place.self in
    let next = c.run_due.new.self in
    let v = worker_face g.K.StateSaver.state g.K.StateSaver.copies next in
    let place = c.loop-place.place in
    let ok = c.in_ok-run_due.ensures in
    let now = h.0.moved c.requires.worker.0 c.requires.worker.1 in
    let then = ok.moved now.new_cells now.worker in
    let before = c.loop-place-test.true in
    let end = c.len-place-end.ensures in
    let same = h.2 in
    let count = ok.count in
    let faces = length-map next.processes.items see in
    let len = c.args.self.now.processes.ok.0 in
    let f = some_at v.processes place (omega (arith, before, end, len, same, count, faces)) in
    let process = process_at words b then.new_cells v place f.0 then.worker f.1 in (
      goes_on words b bound c.args.order.now.end (g.M.Simulation.processes model) bound u w v c.args.mail.now.items c.loop-place.mail.items c.run_due.new.mail.items h.0 ok.moved ok.midway (λ t soon all. pending_down v.processes t bound soon ok.pending),
      Each-take-next (IsPendingFrom (suc bound)) v.processes place f.0 (subst (Each (IsPendingFrom (suc bound))) (sym ok.before) h.1) f.1 (done_at words b process.0 v place bound f.0 process.1 f.1 ok.done),
      ok.count ∙ h.2,
      ok.rest ∙ ap (λ (s : Worker g.row.P.Denot g.row.K.Denot). record s { processes = next.processes; queue = next.queue; counts = next.counts }) h.3,
    )
