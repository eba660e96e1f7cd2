use Rattle.std.proofs.Common.{◌≡◌, ℕ, suc, ◌≤◌, [], length, Err, refl, ap, sym, subst, ◌∙◌, arith}
use Rattle.std.proofs.lemmas.List.{length-map}
use Rattle.std.proofs.lemmas.Result.{err_from_is_err_and}
use Rattle.warp_process.specs.Processes.{face}
use Rattle.warp_worker.specs.Moves.{IsMidway, Moves}
use Rattle.warp_worker.specs.declared.worker.Worker.{Worker}
use Rattle.warp_worker.specs.Workers.{worker_face}
use Rattle.warp_worker.proofs.Midway.{moves_then}
use Rattle.warp_worker.proofs.TooMany.{too_many_before, too_many_settled}
use Rattle.warp_worker.proofs.Advancing.{midway_start, moves_five, advanced}
use Rattle.warp_worker.proofs.worker.Worker.run_round.Goals as goal

pub take_inbox-requires-clause-midway : goal.take_inbox-requires-clause-midway
take_inbox-requires-clause-midway g c =
    let order = c.args.order.now in
    let see = worker_face g.K.StateSaver.state g.K.StateSaver.copies in
    let old = see c.args.self.now in
    let w = see c.commit.new.self in
    let rest = c.in_ok-commit.ensures.rest in
    let faces = length-map c.commit.new.self.processes.items (face g.K.StateSaver.state g.K.StateSaver.copies) in
    let old_faces = length-map c.args.self.now.processes.items (face g.K.StateSaver.state g.K.StateSaver.copies) in
    let count = c.in_ok-commit.ensures.count in
    subst (IsMidway order.bound order.end (g.M.Simulation.processes order.model.now) w) (sym c.new-mail.ensures.items)
    (midway_start order.bound order.end (g.M.Simulation.processes order.model.now) old w c.requires.may c.in_ok-commit.ensures.due (ap (λ (s : Worker g.row.P.Denot g.row.K.Denot). s.first) rest) (omega (arith, faces, old_faces, count)) (ap (λ (s : Worker g.row.P.Denot g.row.K.Denot). s.inbox.items) rest) (ap (λ (s : Worker g.row.P.Denot g.row.K.Denot). s.outbox.items) rest))

pub run_bound-requires-clause-pending : goal.run_bound-requires-clause-pending
run_bound-requires-clause-pending g c =
    let bound = c.args.order.now.bound in
    c.in_ok-settle.ensures.pending bound (omega arith) (c.in_ok-take_inbox.ensures.pending bound (omega arith) c.in_ok-commit.ensures.pending)

pub run_ahead-requires-clause-pending : goal.run_ahead-requires-clause-pending
run_ahead-requires-clause-pending g c =
    let bound = c.args.order.now.bound in
    c.in_ok-settle-2.ensures.pending (suc bound) (omega arith) c.in_ok-run_bound.ensures.pending

pub settle-requires-2-clause-worker : goal.settle-requires-2-clause-worker
settle-requires-2-clause-worker g c =
    let h1 = c.in_ok-commit.ensures.moved c.requires.worker.0 c.requires.worker.1 in
    let h2 = c.in_ok-take_inbox.ensures.moved h1.new_cells h1.worker in
    let h3 = c.in_ok-settle.ensures.moved h2.new_cells h2.worker in
    let h = c.in_ok-run_bound.ensures.moved h3.new_cells h3.worker in
    (h.new_cells, h.worker)

pub run_ahead-requires-clause-worker : goal.run_ahead-requires-clause-worker
run_ahead-requires-clause-worker g c =
    let h1 = c.in_ok-commit.ensures.moved c.requires.worker.0 c.requires.worker.1 in
    let h2 = c.in_ok-take_inbox.ensures.moved h1.new_cells h1.worker in
    let h3 = c.in_ok-settle.ensures.moved h2.new_cells h2.worker in
    let h4 = c.in_ok-run_bound.ensures.moved h3.new_cells h3.worker in
    let h = c.in_ok-settle-2.ensures.moved h4.new_cells h4.worker in
    (h.new_cells, h.worker)

pub returns-in_err-run_bound-clause-many : goal.returns-in_err-run_bound-clause-many
returns-in_err-run_bound-clause-many g c is =
    let words = g.P.Payload.words in
    let order = c.args.order.now in
    let b = g.M.Simulation.behaviour order.model.now in
    let see = worker_face g.K.StateSaver.state g.K.StateSaver.copies in
    let u = see c.args.self.now in
    let v = see c.commit.new.self in
    let w = see c.take_inbox.new.self in
    let x = see c.settle.new.self in
    let one = c.in_ok-commit.ensures in
    let two = c.in_ok-take_inbox.ensures in
    let three = c.in_ok-settle.ensures in
    let start = c.new-mail.result.items in
    let first = ap (λ (s : Worker g.row.P.Denot g.row.K.Denot). s.first) three.rest ∙ ap (λ (s : Worker g.row.P.Denot g.row.K.Denot). s.first) two.rest in
    let told = err_from_is_err_and c.from_residual-in_err-run_bound.result c.from_residual-in_err-run_bound.ensures.1 in
    let many = c.in_err-run_bound.ensures.many (ap Err (sym told.2) ∙ sym told.1 ∙ is) in
    let moved = moves_then words b v w x start c.take_inbox.new.mail.items c.settle.new.mail.items two.moved three.moved in
    too_many_settled words b order.bound order.end u v one.moved (ap (λ (s : Worker g.row.P.Denot g.row.K.Denot). s.first) one.rest) one.due (too_many_before words b v x start c.settle.new.mail.items moved first many)

pub returns-in_err-run_ahead-clause-many : goal.returns-in_err-run_ahead-clause-many
returns-in_err-run_ahead-clause-many g c is =
    let words = g.P.Payload.words in
    let order = c.args.order.now in
    let b = g.M.Simulation.behaviour order.model.now in
    let see = worker_face g.K.StateSaver.state g.K.StateSaver.copies in
    let u = see c.args.self.now in
    let v = see c.commit.new.self in
    let w = see c.take_inbox.new.self in
    let x = see c.settle.new.self in
    let y = see c.run_bound.new.self in
    let z = see c.settle-2.new.self in
    let one = c.in_ok-commit.ensures in
    let two = c.in_ok-take_inbox.ensures in
    let three = c.in_ok-settle.ensures in
    let four = c.in_ok-run_bound.ensures in
    let five = c.in_ok-settle-2.ensures in
    let start = c.new-mail.result.items in
    let end = c.settle-2.new.mail.items in
    let first = ap (λ (s : Worker g.row.P.Denot g.row.K.Denot). s.first) five.rest ∙ ap (λ (s : Worker g.row.P.Denot g.row.K.Denot). s.first) four.rest ∙ ap (λ (s : Worker g.row.P.Denot g.row.K.Denot). s.first) three.rest ∙ ap (λ (s : Worker g.row.P.Denot g.row.K.Denot). s.first) two.rest in
    let told = err_from_is_err_and c.from_residual-in_err-run_ahead.result c.from_residual-in_err-run_ahead.ensures.1 in
    let many = c.in_err-run_ahead.ensures.many (ap Err (sym told.2) ∙ sym told.1 ∙ is) in
    let moved = moves_then words b v x z start c.settle.new.mail.items end (moves_then words b v w x start c.take_inbox.new.mail.items c.settle.new.mail.items two.moved three.moved)
    (moves_then words b x y z c.settle.new.mail.items c.run_bound.new.mail.items end four.moved five.moved) in
    too_many_settled words b order.bound order.end u v one.moved (ap (λ (s : Worker g.row.P.Denot g.row.K.Denot). s.first) one.rest) one.due (too_many_before words b v z start end moved first many)

pub least_time-self-requires : goal.least_time-self-requires
least_time-self-requires g c =
    let b = g.M.Simulation.behaviour c.args.order.now.model.now in
    let h1 = c.in_ok-commit.ensures.moved c.requires.worker.0 c.requires.worker.1 in
    let h2 = c.in_ok-take_inbox.ensures.moved h1.new_cells h1.worker in
    let h3 = c.in_ok-settle.ensures.moved h2.new_cells h2.worker in
    let h4 = c.in_ok-run_bound.ensures.moved h3.new_cells h3.worker in
    let h5 = c.in_ok-settle-2.ensures.moved h4.new_cells h4.worker in
    let h = c.in_ok-run_ahead.ensures.moved h5.new_cells h5.worker in
    record { worker = (b, h.new_cells, h.worker) }

pub first_failed-self-requires : goal.first_failed-self-requires
first_failed-self-requires g c =
    let b = g.M.Simulation.behaviour c.args.order.now.model.now in
    let h1 = c.in_ok-commit.ensures.moved c.requires.worker.0 c.requires.worker.1 in
    let h2 = c.in_ok-take_inbox.ensures.moved h1.new_cells h1.worker in
    let h3 = c.in_ok-settle.ensures.moved h2.new_cells h2.worker in
    let h4 = c.in_ok-run_bound.ensures.moved h3.new_cells h3.worker in
    let h5 = c.in_ok-settle-2.ensures.moved h4.new_cells h4.worker in
    let h = c.in_ok-run_ahead.ensures.moved h5.new_cells h5.worker in
    record { worker = (b, h.new_cells, g.met.M.Simulation.looks_ahead c.args.order.now.model.now, record { faces = h.worker.faces; are = h.worker.are; numbered = h.worker.numbered }) }

pub returns-clause-advanced : goal.returns-clause-advanced
returns-clause-advanced g c =
    let words = g.P.Payload.words in
    let order = c.args.order.now in
    let b = g.M.Simulation.behaviour order.model.now in
    let n = g.M.Simulation.processes order.model.now in
    let bound = order.bound in
    let see = worker_face g.K.StateSaver.state g.K.StateSaver.copies in
    let face_of = face g.K.StateSaver.state g.K.StateSaver.copies in
    let self = c.args.self.now in
    let end = c.run_ahead.new.self in
    let u = see self in
    let v = see c.commit.new.self in
    let w = see c.take_inbox.new.self in
    let x = see c.settle.new.self in
    let y = see c.run_bound.new.self in
    let z = see c.settle-2.new.self in
    let last = see end in
    let mail = c.run_ahead.new.mail.items in
    let one = c.in_ok-commit.ensures in
    let two = c.in_ok-take_inbox.ensures in
    let three = c.in_ok-settle.ensures in
    let four = c.in_ok-run_bound.ensures in
    let five = c.in_ok-settle-2.ensures in
    let six = c.in_ok-run_ahead.ensures in
    let later = moves_five words b v w x y z last c.new-mail.result.items c.take_inbox.new.mail.items c.settle.new.mail.items c.run_bound.new.mail.items c.settle-2.new.mail.items mail two.moved three.moved four.moved five.moved six.moved in
    let moved = subst (λ l. Moves words b v l last mail) c.new-mail.ensures.items later in
    let first = ap (λ (s : Worker g.row.P.Denot g.row.K.Denot). s.first) six.rest ∙ ap (λ (s : Worker g.row.P.Denot g.row.K.Denot). s.first) five.rest ∙ ap (λ (s : Worker g.row.P.Denot g.row.K.Denot). s.first) four.rest ∙ ap (λ (s : Worker g.row.P.Denot g.row.K.Denot). s.first) three.rest ∙ ap (λ (s : Worker g.row.P.Denot g.row.K.Denot). s.first) two.rest ∙ ap (λ (s : Worker g.row.P.Denot g.row.K.Denot). s.first) one.rest in
    let inbox = ap (λ (s : Worker g.row.P.Denot g.row.K.Denot). s.inbox.items) six.rest ∙ ap (λ (s : Worker g.row.P.Denot g.row.K.Denot). s.inbox.items) five.rest ∙ ap (λ (s : Worker g.row.P.Denot g.row.K.Denot). s.inbox.items) four.rest ∙ ap (λ (s : Worker g.row.P.Denot g.row.K.Denot). s.inbox.items) three.rest ∙ two.empty in
    let count = length-map end.processes.items face_of ∙ six.count ∙ five.count ∙ four.count ∙ three.count ∙ two.count ∙ one.count ∙ sym (length-map self.processes.items face_of) in
    advanced words b n bound order.end u v last (see (record end { next = c.least_time-self.result; failed = c.first_failed-self.result })) mail c.requires.may one.moved moved six.empty six.midway six.pending inbox first count refl refl refl refl c.least_time-self.ensures
    (λ cells h. c.first_failed-self.ensures b cells (record { faces = h.faces; are = h.are; numbered = h.numbered }))
