use Rattle.std.proofs.Common.{◌≡◌, ◌≤◌, suc, refl, arith}
use Rattle.warp_worker.specs.Workers.{worker_face}
use Rattle.warp_worker.proofs.Loops.{sent_away, midway_sent}
use Rattle.warp_worker.proofs.worker.Worker.route.Goals as goal

pub returns-then-owns-clause-pending : goal.returns-then-owns-clause-pending
returns-then-owns-clause-pending g c time soon all =
    let later = c.requires.departure.later in
    c.in_ok-deliver.ensures.pending time (omega (arith, soon, later)) all

pub returns-clause-moved : goal.returns-clause-moved
returns-clause-moved g c cells h =
    let self = c.args.self.now in
    let w = worker_face g.K.StateSaver.state g.K.StateSaver.copies self in
    let v = worker_face g.K.StateSaver.state g.K.StateSaver.copies (record self { outbox = c.push.new.self }) in
    sent_away g.P.Payload.words (g.M.Simulation.behaviour c.args.order.now.model.now) w v c.args.mail.now.items c.args.message refl refl refl c.in_ok-push.ensures.items cells h

pub returns-clause-midway : goal.returns-clause-midway
returns-clause-midway g c =
    let self = c.args.self.now in
    let w = worker_face g.K.StateSaver.state g.K.StateSaver.copies self in
    let v = worker_face g.K.StateSaver.state g.K.StateSaver.copies (record self { outbox = c.push.new.self }) in
    midway_sent c.args.order.now.bound c.args.order.now.end (g.M.Simulation.processes c.args.order.now.model.now) w v c.args.mail.now.items c.args.message refl refl refl c.in_ok-push.ensures.items c.requires.departure c.requires.midway
