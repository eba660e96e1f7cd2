use Rattle.std.proofs.Common.{◌≡◌, ℕ, ◌<◌, ◌≤◌, Some, length, map, get_or, ap, sym, subst, ◌∙◌}
use Rattle.std.proofs.lemmas.List.{take_all}
use Rattle.warp_base.specs.Events.{Each}
use Rattle.warp_process.specs.Processes.{ProcessFace, face, HasFailed}
use Rattle.warp_worker.specs.Workers.{worker_face, TellsFailed}
use Rattle.warp_worker.proofs.Replaced.{get_mapped, some_process_at}
use Rattle.warp_worker.proofs.Telling.{tells_one, tells_none}
use Rattle.warp_worker.proofs.worker.Worker.first_failed.Goals as goal

pub has_failed-requires : goal.has_failed-requires
has_failed-requires g c =
    let self = c.args.self.now in
    let see = face g.K.StateSaver.state g.K.StateSaver.copies in
    let w = worker_face g.K.StateSaver.state g.K.StateSaver.copies self in
    let items = self.processes.items in
    let i = c.loop-process.process-index in
    let x = c.process-item.result in
    let same = c.deref-process-items.ensures.value in
    let less : i < length items = subst (λ l. i < length l) same c.loop-process-test.true in
    let get = get_mapped see items i x less (c.process-item.is ∙ ap (λ l. get_or l i x) same) in
    record { process = some_process_at g.P.Payload.words c.requires.worker.0 c.requires.worker.2 c.requires.worker.1 w i (see x) c.requires.worker.3 get }

pub returns-then-has_failed : goal.returns-then-has_failed
returns-then-has_failed g c b cells h =
    let self = c.args.self.now in
    let see = face g.K.StateSaver.state g.K.StateSaver.copies in
    let w = worker_face g.K.StateSaver.state g.K.StateSaver.copies self in
    let items = self.processes.items in
    let i = c.loop-process.process-index in
    let x = c.process-item.result in
    let same = c.deref-process-items.ensures.value in
    let less : i < length items = subst (λ l. i < length l) same c.loop-process-test.true in
    let get = get_mapped see items i x less (c.process-item.is ∙ ap (λ l. get_or l i x) same) in
    subst (λ p. TellsFailed g.P.Payload.words b cells (Some p)) (sym c.number.ensures) (tells_one g.P.Payload.words c.failures_are_real.ensures b cells w i (see x) h get (c.has_failed.ensures.0 c.if-has_failed.true))

pub returns : goal.returns
returns g c b cells h =
    let self = c.args.self.now in
    let see = face g.K.StateSaver.state g.K.StateSaver.copies in
    let w = worker_face g.K.StateSaver.state g.K.StateSaver.copies self in
    let items = self.processes.items in
    let i = c.loop-process.process-index in
    let all : length items ≤ i = subst (λ l. length l ≤ i) c.deref-process-items.ensures.value c.loop-process-test.false in
    tells_none g.P.Payload.words c.failures_are_real.ensures b cells w h (subst (λ l. Each (λ (f : ProcessFace g.row.P.Denot g.row.K-State.Denot). HasFailed f → ⊥) (map see l)) (take_all i items all) c.loop-process.invariant)
