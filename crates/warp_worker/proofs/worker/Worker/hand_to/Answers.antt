use Rattle.std.proofs.Common.{◌≡◌, ℕ, ◌+◌, ◌-◌, ◌<◌, ◌≤◌, Err, length, get_or, refl, ap, sym, ◌∙◌, arith}
use Rattle.std.proofs.lemmas.List.{length-map, map-set}
use Rattle.std.specs.Vec.{with_item}
use Rattle.warp_process.specs.Processes.{face}
use Rattle.warp_worker.specs.Workers.{worker_face}
use Rattle.warp_worker.specs.Moves.{IsDue}
use Rattle.warp_worker.proofs.Places.{Each-at}
use Rattle.warp_worker.proofs.Cells.{numbered_at}
use Rattle.warp_worker.proofs.Replaced.{get_mapped, some_process_at, took_moves, took_midway, took_pending, replaced_total}
use Rattle.warp_worker.proofs.worker.Worker.hand_to.Goals as goal

pub take-requires-clause-process : goal.take-requires-clause-process
take-requires-clause-process g c =
    let self = c.args.self.now in
    let see = face g.K.StateSaver.state g.K.StateSaver.copies in
    let w = worker_face g.K.StateSaver.state g.K.StateSaver.copies self in
    let place = c.event.result.receiver - self.first in
    let event = ap (λ e. e.receiver) c.event.ensures in
    let above = c.requires.arrival.above in
    let below = c.requires.arrival.below in
    let count = length-map self.processes.items see in
    let x = c.index_mut.result.now in
    let get = get_mapped see self.processes.items place x (omega (arith, event, above, below, count)) c.index_mut.ensures.value in
    some_process_at g.P.Payload.words (g.M.Simulation.behaviour c.args.order.now.model.now) (g.met.M.Simulation.looks_ahead c.args.order.now.model.now) c.requires.worker.0 w place (see x) c.requires.worker.1 get

pub take-requires-clause-own : goal.take-requires-clause-own
take-requires-clause-own g c =
    let self = c.args.self.now in
    let see = face g.K.StateSaver.state g.K.StateSaver.copies in
    let w = worker_face g.K.StateSaver.state g.K.StateSaver.copies self in
    let place = c.event.result.receiver - self.first in
    let event = ap (λ e. e.receiver) c.event.ensures in
    let above = c.requires.arrival.above in
    let below = c.requires.arrival.below in
    let count = length-map self.processes.items see in
    let x = c.index_mut.result.now in
    let get = get_mapped see self.processes.items place x (omega (arith, event, above, below, count)) c.index_mut.ensures.value in
    let number = numbered_at w.first w.processes place (see x) c.requires.worker.1.numbered get in
    omega (arith, event, above, number)

pub unreachable-requires : goal.unreachable-requires
unreachable-requires g c =
    let self = c.args.self.now in
    let see = face g.K.StateSaver.state g.K.StateSaver.copies in
    let w = worker_face g.K.StateSaver.state g.K.StateSaver.copies self in
    let place = c.event.result.receiver - self.first in
    let event = ap (λ e. e.receiver) c.event.ensures in
    let above = c.requires.arrival.above in
    let below = c.requires.arrival.below in
    let count = length-map self.processes.items see in
    let x = c.index_mut.result.now in
    let get = get_mapped see self.processes.items place x (omega (arith, event, above, below, count)) c.index_mut.ensures.value in
    let due = (Each-at (IsDue c.args.order.now.bound c.args.order.now.end) w.processes place (see x) c.requires.midway.due get).committed in
    let late = c.requires.arrival.time in
    let soon = c.in-Err-Committed.ensures.committed.0 (ap Err c.in-Err-Committed.field-0-is) in
    omega (arith, due, late, soon)

pub returns-in-Ok-clause-moved : goal.returns-in-Ok-clause-moved
returns-in-Ok-clause-moved g c cells h =
    let self = c.args.self.now in
    let see = face g.K.StateSaver.state g.K.StateSaver.copies in
    let w = worker_face g.K.StateSaver.state g.K.StateSaver.copies self in
    let place = c.event.result.receiver - self.first in
    let event = ap (λ e. e.receiver) c.event.ensures in
    let above = c.requires.arrival.above in
    let below = c.requires.arrival.below in
    let count = length-map self.processes.items see in
    let x = c.index_mut.result.now in
    let y = c.take.new.self in
    let get = get_mapped see self.processes.items place x (omega (arith, event, above, below, count)) c.index_mut.ensures.value in
    let new = worker_face g.K.StateSaver.state g.K.StateSaver.copies (record self { processes = with_item self.processes place y }) in
    let model = c.args.order.now.model.now in
    took_moves g.P.Payload.words w new place (see x) (see y) (record { get = get; put = map-set see self.processes.items place y; first = refl; inbox = refl; outbox = refl })
    g.met.P.Payload.tells_apart c.sent_is_kept.ensures c.nothing_is_sent_beyond.ensures (g.M.Simulation.behaviour model) c.args.order.now.bound c.args.order.now.end (g.M.Simulation.processes model) (g.met.M.Simulation.sends_within model)
    c.requires.worker.0 c.requires.worker.1 c.args.message c.args.mail.now.items c.take.new.out.items (λ past is. c.in-Ok.ensures.kept (g.M.Simulation.behaviour model) past is) c.in-Ok.ensures.taken c.in-Ok.ensures.undone c.in-Ok.ensures.posted c.in-Ok.ensures.last c.in-Ok.ensures.number cells h

pub returns-in-Ok-clause-midway : goal.returns-in-Ok-clause-midway
returns-in-Ok-clause-midway g c =
    let self = c.args.self.now in
    let see = face g.K.StateSaver.state g.K.StateSaver.copies in
    let w = worker_face g.K.StateSaver.state g.K.StateSaver.copies self in
    let place = c.event.result.receiver - self.first in
    let event = ap (λ e. e.receiver) c.event.ensures in
    let above = c.requires.arrival.above in
    let below = c.requires.arrival.below in
    let count = length-map self.processes.items see in
    let x = c.index_mut.result.now in
    let y = c.take.new.self in
    let get = get_mapped see self.processes.items place x (omega (arith, event, above, below, count)) c.index_mut.ensures.value in
    let new = worker_face g.K.StateSaver.state g.K.StateSaver.copies (record self { processes = with_item self.processes place y }) in
    let model = c.args.order.now.model.now in
    took_midway g.P.Payload.words w new place (see x) (see y) (record { get = get; put = map-set see self.processes.items place y; first = refl; inbox = refl; outbox = refl })
    g.met.P.Payload.tells_apart c.sent_is_kept.ensures c.nothing_is_sent_beyond.ensures (g.M.Simulation.behaviour model) c.args.order.now.bound c.args.order.now.end (g.M.Simulation.processes model) (g.met.M.Simulation.sends_within model)
    c.requires.worker.0 c.requires.worker.1 c.args.message c.args.mail.now.items c.take.new.out.items (λ past is. c.in-Ok.ensures.kept (g.M.Simulation.behaviour model) past is) c.in-Ok.ensures.taken c.in-Ok.ensures.undone c.in-Ok.ensures.posted c.in-Ok.ensures.last c.in-Ok.ensures.number c.requires.midway c.requires.arrival.time

pub returns-in-Ok-clause-pending : goal.returns-in-Ok-clause-pending
returns-in-Ok-clause-pending g c =
    let self = c.args.self.now in
    let see = face g.K.StateSaver.state g.K.StateSaver.copies in
    let w = worker_face g.K.StateSaver.state g.K.StateSaver.copies self in
    let place = c.event.result.receiver - self.first in
    let event = ap (λ e. e.receiver) c.event.ensures in
    let above = c.requires.arrival.above in
    let below = c.requires.arrival.below in
    let count = length-map self.processes.items see in
    let x = c.index_mut.result.now in
    let y = c.take.new.self in
    let get = get_mapped see self.processes.items place x (omega (arith, event, above, below, count)) c.index_mut.ensures.value in
    let new = worker_face g.K.StateSaver.state g.K.StateSaver.copies (record self { processes = with_item self.processes place y }) in
    let model = c.args.order.now.model.now in
    took_pending g.P.Payload.words w new place (see x) (see y) (record { get = get; put = map-set see self.processes.items place y; first = refl; inbox = refl; outbox = refl })
    g.met.P.Payload.tells_apart c.sent_is_kept.ensures c.nothing_is_sent_beyond.ensures (g.M.Simulation.behaviour model) c.args.order.now.bound c.args.order.now.end (g.M.Simulation.processes model) (g.met.M.Simulation.sends_within model)
    c.requires.worker.0 c.requires.worker.1 c.args.message c.args.mail.now.items c.take.new.out.items (λ past is. c.in-Ok.ensures.kept (g.M.Simulation.behaviour model) past is) c.in-Ok.ensures.taken c.in-Ok.ensures.undone c.in-Ok.ensures.posted c.in-Ok.ensures.last c.in-Ok.ensures.number

pub returns-in-Ok-clause-sent : goal.returns-in-Ok-clause-sent
returns-in-Ok-clause-sent g c =
    let self = c.args.self.now in
    let see = face g.K.StateSaver.state g.K.StateSaver.copies in
    let w = worker_face g.K.StateSaver.state g.K.StateSaver.copies self in
    let place = c.event.result.receiver - self.first in
    let event = ap (λ e. e.receiver) c.event.ensures in
    let above = c.requires.arrival.above in
    let below = c.requires.arrival.below in
    let count = length-map self.processes.items see in
    let x = c.index_mut.result.now in
    let y = c.take.new.self in
    let get = get_mapped see self.processes.items place x (omega (arith, event, above, below, count)) c.index_mut.ensures.value in
    let new = worker_face g.K.StateSaver.state g.K.StateSaver.copies (record self { processes = with_item self.processes place y }) in
    let sum = replaced_total g.P.Payload.words w new place (see x) (see y) (record { get = get; put = map-set see self.processes.items place y; first = refl; inbox = refl; outbox = refl }) (λ f. length f.sent) in
    let sent = c.in-Ok.ensures.sent in
    omega (arith, sum, sent)
