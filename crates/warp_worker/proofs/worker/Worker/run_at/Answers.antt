use Rattle.std.proofs.Common.{◌≡◌, ℕ, ◌+◌, ◌^◌, ◌<◌, ◌≤◌, Some, Err, slice_get, length, take, get_or, refl, ap, sym, subst, ◌∙◌, arith}
use Rattle.std.proofs.lemmas.List.{map-set}
use Rattle.std.proofs.lemmas.Result.{err_from_is_err_and}
use Rattle.std.specs.Vec.{with_item}
use Rattle.warp_process.specs.Processes.{ProcessFace, face}
use Rattle.warp_worker.specs.Workers.{worker_face, past_of}
use Rattle.warp_base.specs.Events.{Each}
use Rattle.warp_worker.specs.Moves.{HasMoved, IsMidway, IsPendingFrom, next_of, all_to_run}
use Rattle.warp_worker.proofs.Places.{Each-at}
use Rattle.warp_worker.proofs.Midway.{next_late}
use Rattle.warp_worker.proofs.Replaced.{get_same, process_at, ran_moves, ran_midway, ran_pending, ran_fewer, same_before}
use Rattle.warp_worker.proofs.TooMany.{has_too_many}
use Rattle.warp_worker.proofs.worker.Worker.run_at.Goals as goal

pub run_next-requires-clause-process : goal.run_next-requires-clause-process
run_next-requires-clause-process g c =
    let self = c.args.self.now in
    let see = face g.K.StateSaver.state g.K.StateSaver.copies in
    let w = worker_face g.K.StateSaver.state g.K.StateSaver.copies self in
    let x = c.index_mut.result.now in
    let get = get_same see self.processes.items c.args.place x c.requires.next.0 c.requires.next.2 c.index_mut.ensures.value in
    process_at g.P.Payload.words (g.M.Simulation.behaviour c.args.order.now.model.now) c.requires.worker.0 w c.args.place (see x) c.requires.worker.1 get.1

pub returns-in_err-run_next-clause-before : goal.returns-in_err-run_next-clause-before
returns-in_err-run_next-clause-before g c =
    let self = c.args.self.now in
    let see = face g.K.StateSaver.state g.K.StateSaver.copies in
    let w = worker_face g.K.StateSaver.state g.K.StateSaver.copies self in
    let x = c.index_mut.result.now in
    let y = c.run_next.new.self in
    let get = get_same see self.processes.items c.args.place x c.requires.next.0 c.requires.next.2 c.index_mut.ensures.value in
    let new = worker_face g.K.StateSaver.state g.K.StateSaver.copies (record self { processes = with_item self.processes c.args.place y }) in
    same_before g.P.Payload.words w new c.args.place (see x) (see y) (record { get = get.1; put = map-set see self.processes.items c.args.place y; first = refl; inbox = refl; outbox = refl })

pub returns-in_err-run_next-clause-many : goal.returns-in_err-run_next-clause-many
returns-in_err-run_next-clause-many g c is cells h =
    let self = c.args.self.now in
    let see = face g.K.StateSaver.state g.K.StateSaver.copies in
    let w = worker_face g.K.StateSaver.state g.K.StateSaver.copies self in
    let x = c.index_mut.result.now in
    let e = c.requires.next.1 in
    let get = get_same see self.processes.items c.args.place x c.requires.next.0 c.requires.next.2 c.index_mut.ensures.value in
    let there = subst (λ f. next_of f ≡ Some e) get.0 c.requires.next.3 in
    let told = err_from_is_err_and c.from_residual.result c.from_residual.ensures.1 in
    let same = ap Err (sym told.2) ∙ sym told.1 ∙ is in
    has_too_many g.P.Payload.words (g.M.Simulation.behaviour c.args.order.now.model.now) c.sent_is_kept.ensures cells w c.args.place (see x) e h get.1
    (omega (arith, x.marks.ok.0, x.marks.ok.1, x.marks.small)) (omega (arith, x.sent.ok.0, x.sent.ok.1, x.sent.small)) (λ past process. c.in_err-run_next.ensures.many past e process there same)

pub returns-clause-moved : goal.returns-clause-moved
returns-clause-moved g c cells h =
    let self = c.args.self.now in
    let see = face g.K.StateSaver.state g.K.StateSaver.copies in
    let w = worker_face g.K.StateSaver.state g.K.StateSaver.copies self in
    let x = c.index_mut.result.now in
    let y = c.run_next.new.self in
    let e = c.requires.next.1 in
    let get = get_same see self.processes.items c.args.place x c.requires.next.0 c.requires.next.2 c.index_mut.ensures.value in
    let there = subst (λ f. next_of f ≡ Some e) get.0 c.requires.next.3 in
    let new = worker_face g.K.StateSaver.state g.K.StateSaver.copies (record self { processes = with_item self.processes c.args.place y }) in
    let model = c.args.order.now.model.now in
    let ok = c.in_ok-run_next.ensures in
    subst (λ v. HasMoved past_of g.P.Payload.words (g.M.Simulation.behaviour model) cells w c.args.mail.now.items (worker_face g.K.StateSaver.state g.K.StateSaver.copies v) c.run_next.new.out.items) (sym c.note_next.ensures)
    (ran_moves g.P.Payload.words w new c.args.place (see x) (see y) (record { get = get.1; put = map-set see self.processes.items c.args.place y; first = refl; inbox = refl; outbox = refl })
    g.met.P.Payload.tells_apart c.sent_is_kept.ensures c.nothing_is_sent_beyond.ensures (g.M.Simulation.behaviour model) c.args.order.now.bound c.args.order.now.end (g.M.Simulation.processes model) (g.met.M.Simulation.sends_within model)
    c.requires.worker.0 c.requires.worker.1 e c.args.mail.now.items c.run_next.new.out.items ok.kept there (ap (λ v. v.items) ok.events) ok.ran (ap (λ v. v.items) ok.early) (ok.posted e there) ok.last ok.number cells h)

pub returns-clause-midway : goal.returns-clause-midway
returns-clause-midway g c =
    let self = c.args.self.now in
    let see = face g.K.StateSaver.state g.K.StateSaver.copies in
    let w = worker_face g.K.StateSaver.state g.K.StateSaver.copies self in
    let x = c.index_mut.result.now in
    let y = c.run_next.new.self in
    let e = c.requires.next.1 in
    let get = get_same see self.processes.items c.args.place x c.requires.next.0 c.requires.next.2 c.index_mut.ensures.value in
    let there = subst (λ f. next_of f ≡ Some e) get.0 c.requires.next.3 in
    let new = worker_face g.K.StateSaver.state g.K.StateSaver.copies (record self { processes = with_item self.processes c.args.place y }) in
    let model = c.args.order.now.model.now in
    let bound = c.args.order.now.bound in
    let ok = c.in_ok-run_next.ensures in
    let late = next_late bound (see x) e there (Each-at (IsPendingFrom bound) w.processes c.args.place (see x) c.requires.pending get.1) in
    subst (λ v. IsMidway bound c.args.order.now.end (g.M.Simulation.processes model) (worker_face g.K.StateSaver.state g.K.StateSaver.copies v) c.run_next.new.out.items) (sym c.note_next.ensures)
    (ran_midway g.P.Payload.words w new c.args.place (see x) (see y) (record { get = get.1; put = map-set see self.processes.items c.args.place y; first = refl; inbox = refl; outbox = refl })
    g.met.P.Payload.tells_apart c.sent_is_kept.ensures c.nothing_is_sent_beyond.ensures (g.M.Simulation.behaviour model) bound c.args.order.now.end (g.M.Simulation.processes model) (g.met.M.Simulation.sends_within model)
    c.requires.worker.0 c.requires.worker.1 e c.args.mail.now.items c.run_next.new.out.items ok.kept there (ap (λ v. v.items) ok.events) ok.ran (ap (λ v. v.items) ok.early) (ok.posted e there) ok.last ok.number c.requires.midway late c.requires.next.4)

pub returns-clause-pending : goal.returns-clause-pending
returns-clause-pending g c =
    let self = c.args.self.now in
    let see = face g.K.StateSaver.state g.K.StateSaver.copies in
    let w = worker_face g.K.StateSaver.state g.K.StateSaver.copies self in
    let x = c.index_mut.result.now in
    let y = c.run_next.new.self in
    let e = c.requires.next.1 in
    let get = get_same see self.processes.items c.args.place x c.requires.next.0 c.requires.next.2 c.index_mut.ensures.value in
    let there = subst (λ f. next_of f ≡ Some e) get.0 c.requires.next.3 in
    let new = worker_face g.K.StateSaver.state g.K.StateSaver.copies (record self { processes = with_item self.processes c.args.place y }) in
    let model = c.args.order.now.model.now in
    let ok = c.in_ok-run_next.ensures in
    subst (λ v. (t : ℕ) → Each (IsPendingFrom t) w.processes → Each (IsPendingFrom t) (worker_face g.K.StateSaver.state g.K.StateSaver.copies v).processes) (sym c.note_next.ensures)
    (ran_pending g.P.Payload.words w new c.args.place (see x) (see y) (record { get = get.1; put = map-set see self.processes.items c.args.place y; first = refl; inbox = refl; outbox = refl })
    g.met.P.Payload.tells_apart c.sent_is_kept.ensures c.nothing_is_sent_beyond.ensures (g.M.Simulation.behaviour model) c.args.order.now.bound c.args.order.now.end (g.M.Simulation.processes model) (g.met.M.Simulation.sends_within model)
    c.requires.worker.0 c.requires.worker.1 e c.args.mail.now.items c.run_next.new.out.items ok.kept there (ap (λ v. v.items) ok.events) ok.ran (ap (λ v. v.items) ok.early) (ok.posted e there) ok.last ok.number)

pub returns-clause-fewer : goal.returns-clause-fewer
returns-clause-fewer g c =
    let self = c.args.self.now in
    let see = face g.K.StateSaver.state g.K.StateSaver.copies in
    let w = worker_face g.K.StateSaver.state g.K.StateSaver.copies self in
    let x = c.index_mut.result.now in
    let y = c.run_next.new.self in
    let e = c.requires.next.1 in
    let get = get_same see self.processes.items c.args.place x c.requires.next.0 c.requires.next.2 c.index_mut.ensures.value in
    let there = subst (λ f. next_of f ≡ Some e) get.0 c.requires.next.3 in
    let new = worker_face g.K.StateSaver.state g.K.StateSaver.copies (record self { processes = with_item self.processes c.args.place y }) in
    let model = c.args.order.now.model.now in
    let ok = c.in_ok-run_next.ensures in
    subst (λ v. all_to_run (worker_face g.K.StateSaver.state g.K.StateSaver.copies v) + 1 ≡ all_to_run w) (sym c.note_next.ensures)
    (ran_fewer g.P.Payload.words w new c.args.place (see x) (see y) (record { get = get.1; put = map-set see self.processes.items c.args.place y; first = refl; inbox = refl; outbox = refl })
    g.met.P.Payload.tells_apart c.sent_is_kept.ensures c.nothing_is_sent_beyond.ensures (g.M.Simulation.behaviour model) c.args.order.now.bound c.args.order.now.end (g.M.Simulation.processes model) (g.met.M.Simulation.sends_within model)
    c.requires.worker.0 c.requires.worker.1 e c.args.mail.now.items c.run_next.new.out.items ok.kept there (ap (λ v. v.items) ok.events) ok.ran (ap (λ v. v.items) ok.early) (ok.posted e there) ok.last ok.number)

pub returns-clause-before : goal.returns-clause-before
returns-clause-before g c =
    let self = c.args.self.now in
    let see = face g.K.StateSaver.state g.K.StateSaver.copies in
    let w = worker_face g.K.StateSaver.state g.K.StateSaver.copies self in
    let x = c.index_mut.result.now in
    let y = c.run_next.new.self in
    let get = get_same see self.processes.items c.args.place x c.requires.next.0 c.requires.next.2 c.index_mut.ensures.value in
    let new = worker_face g.K.StateSaver.state g.K.StateSaver.copies (record self { processes = with_item self.processes c.args.place y }) in
    subst (λ v. take c.args.place (worker_face g.K.StateSaver.state g.K.StateSaver.copies v).processes ≡ take c.args.place w.processes) (sym c.note_next.ensures)
    (same_before g.P.Payload.words w new c.args.place (see x) (see y) (record { get = get.1; put = map-set see self.processes.items c.args.place y; first = refl; inbox = refl; outbox = refl }))
