use Rattle.std.proofs.Common.{◌≡◌, ℕ, ◌+◌, ◌<◌, ◌≤◌, suc, length, drop, get_or, refl, ap, sym, subst, ◌∙◌, arith}
use Rattle.std.proofs.lemmas.List.{map-set}
use Rattle.std.specs.Vec.{with_item}
use Rattle.warp_base.specs.Events.{AreFrom}
use Rattle.warp_process.specs.Processes.{ProcessFace, face}
use Rattle.warp_worker.specs.Workers.{worker_face, IsReady}
use Rattle.warp_worker.proofs.Places.{Each-at}
use Rattle.warp_worker.proofs.Replaced.{get_mapped, some_process_at, committed_moves, committed_ready, committed_early, committed_before}
use Rattle.warp_worker.proofs.worker.Worker.commit_at.Goals as goal

pub commit-requires-clause-process : goal.commit-requires-clause-process
commit-requires-clause-process g c =
    let self = c.args.self.now in
    let see = face g.K.StateSaver.state g.K.StateSaver.copies in
    let w = worker_face g.K.StateSaver.state g.K.StateSaver.copies self in
    let x = c.index_mut.result.now in
    let get = get_mapped see self.processes.items c.args.place x c.requires.within c.index_mut.ensures.value in
    some_process_at g.P.Payload.words (g.M.Simulation.behaviour c.args.order.now.model.now) (g.met.M.Simulation.looks_ahead c.args.order.now.model.now) c.requires.worker.0 w c.args.place (see x) c.requires.worker.1 get

pub commit-requires-clause-forward : goal.commit-requires-clause-forward
commit-requires-clause-forward g c =
    let self = c.args.self.now in
    let see = face g.K.StateSaver.state g.K.StateSaver.copies in
    let w = worker_face g.K.StateSaver.state g.K.StateSaver.copies self in
    let x = c.index_mut.result.now in
    let get = get_mapped see self.processes.items c.args.place x c.requires.within c.index_mut.ensures.value in
    let bound = c.args.order.now.bound in
    let ready = (Each-at (IsReady bound bound c.args.order.now.end) w.processes c.args.place (see x) c.requires.ready get).committed in
    let last = c.requires.last in
    omega (arith, ready, last)

pub commit-requires-clause-ran : goal.commit-requires-clause-ran
commit-requires-clause-ran g c =
    let self = c.args.self.now in
    let see = face g.K.StateSaver.state g.K.StateSaver.copies in
    let w = worker_face g.K.StateSaver.state g.K.StateSaver.copies self in
    let x = c.index_mut.result.now in
    let get = get_mapped see self.processes.items c.args.place x c.requires.within c.index_mut.ensures.value in
    let bound = c.args.order.now.bound in
    subst (λ t. AreFrom t (drop (length x.marks.items) x.events.items)) c.requires.last (Each-at (IsReady bound bound c.args.order.now.end) w.processes c.args.place (see x) c.requires.ready get).pending

pub commit-requires-clause-early : goal.commit-requires-clause-early
commit-requires-clause-early g c =
    let self = c.args.self.now in
    let see = face g.K.StateSaver.state g.K.StateSaver.copies in
    let w = worker_face g.K.StateSaver.state g.K.StateSaver.copies self in
    let x = c.index_mut.result.now in
    let get = get_mapped see self.processes.items c.args.place x c.requires.within c.index_mut.ensures.value in
    let bound = c.args.order.now.bound in
    subst (λ t. AreFrom t x.early.items) c.requires.last (Each-at (λ (f : ProcessFace g.row.P.Denot g.row.K-State.Denot). AreFrom bound f.early) w.processes c.args.place (see x) c.requires.early get)

pub returns-clause-moved : goal.returns-clause-moved
returns-clause-moved g c =
    let self = c.args.self.now in
    let see = face g.K.StateSaver.state g.K.StateSaver.copies in
    let w = worker_face g.K.StateSaver.state g.K.StateSaver.copies self in
    let x = c.index_mut.result.now in
    let y = c.commit.new.self in
    let get = get_mapped see self.processes.items c.args.place x c.requires.within c.index_mut.ensures.value in
    let new = worker_face g.K.StateSaver.state g.K.StateSaver.copies (record self { processes = with_item self.processes c.args.place y }) in
    committed_moves g.P.Payload.words w new c.args.place (see x) (see y) (record { get = get; put = map-set see self.processes.items c.args.place y; first = refl; inbox = refl; outbox = refl })
    c.args.last c.args.order.now.bound c.args.order.now.end c.requires.last self.committed.items c.commit.new.out.items c.in_ok-commit.ensures.committed (g.M.Simulation.behaviour c.args.order.now.model.now)

pub returns-clause-ready : goal.returns-clause-ready
returns-clause-ready g c =
    let self = c.args.self.now in
    let see = face g.K.StateSaver.state g.K.StateSaver.copies in
    let w = worker_face g.K.StateSaver.state g.K.StateSaver.copies self in
    let x = c.index_mut.result.now in
    let y = c.commit.new.self in
    let get = get_mapped see self.processes.items c.args.place x c.requires.within c.index_mut.ensures.value in
    let new = worker_face g.K.StateSaver.state g.K.StateSaver.copies (record self { processes = with_item self.processes c.args.place y }) in
    committed_ready g.P.Payload.words w new c.args.place (see x) (see y) (record { get = get; put = map-set see self.processes.items c.args.place y; first = refl; inbox = refl; outbox = refl })
    c.args.last c.args.order.now.bound c.args.order.now.end c.requires.last self.committed.items c.commit.new.out.items c.in_ok-commit.ensures.committed c.requires.ready

pub returns-clause-early : goal.returns-clause-early
returns-clause-early g c =
    let self = c.args.self.now in
    let see = face g.K.StateSaver.state g.K.StateSaver.copies in
    let w = worker_face g.K.StateSaver.state g.K.StateSaver.copies self in
    let x = c.index_mut.result.now in
    let y = c.commit.new.self in
    let get = get_mapped see self.processes.items c.args.place x c.requires.within c.index_mut.ensures.value in
    let new = worker_face g.K.StateSaver.state g.K.StateSaver.copies (record self { processes = with_item self.processes c.args.place y }) in
    committed_early g.P.Payload.words w new c.args.place (see x) (see y) (record { get = get; put = map-set see self.processes.items c.args.place y; first = refl; inbox = refl; outbox = refl })
    c.args.last c.args.order.now.bound c.args.order.now.end c.requires.last self.committed.items c.commit.new.out.items c.in_ok-commit.ensures.committed c.requires.early

pub returns-clause-before : goal.returns-clause-before
returns-clause-before g c =
    let self = c.args.self.now in
    let see = face g.K.StateSaver.state g.K.StateSaver.copies in
    let w = worker_face g.K.StateSaver.state g.K.StateSaver.copies self in
    let x = c.index_mut.result.now in
    let y = c.commit.new.self in
    let get = get_mapped see self.processes.items c.args.place x c.requires.within c.index_mut.ensures.value in
    let new = worker_face g.K.StateSaver.state g.K.StateSaver.copies (record self { processes = with_item self.processes c.args.place y }) in
    committed_before g.P.Payload.words w new c.args.place (see x) (see y) (record { get = get; put = map-set see self.processes.items c.args.place y; first = refl; inbox = refl; outbox = refl })
    c.args.last c.args.order.now.bound c.args.order.now.end c.requires.last self.committed.items c.commit.new.out.items c.in_ok-commit.ensures.committed c.requires.ready c.requires.before
