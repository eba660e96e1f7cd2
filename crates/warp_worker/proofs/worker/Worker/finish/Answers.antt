use Rattle.std.proofs.Common.{◌≡◌, ◌+◌, ◌^◌, ◌≤◌, List, [], ◌∷◌, map, length, Some, None, refl, ap, sym, subst, ◌∙◌, arith}
use Rattle.warp_process.specs.Processes.{face, IsProcess}
use Rattle.warp_worker.specs.Workers.{Cell, IsWorker, HasEnded, worker_face}
use Rattle.warp_worker.proofs.Endings.{EndedUpTo, ended_none, next_of, ended_more, ended_many, ended_all, nothing_left}
use Rattle.warp_worker.proofs.worker.Worker.finish.Goals as goal

pub loop-process-init : goal.loop-process-init
loop-process-init g c cells h =
    let to = face g.K.StateSaver.state g.K.StateSaver.copies in
    let words = g.P.Payload.words in
    let b = g.M.Simulation.behaviour c.args.model.now in
    let states = c.args.states.now.items in
    let gives : c.into_iter-process-iterator.result.rest.items ≡ c.args.self.processes.items = c.into_iter-process-iterator.ensures.into_iter_gives.0 in
    subst (λ l. EndedUpTo words b cells (map to l) states states 0 None) (sym gives) (ended_none words b cells (worker_face g.K.StateSaver.state g.K.StateSaver.copies c.args.self) states h)

pub end_process-requires : goal.end_process-requires
end_process-requires g c =
    let to = face g.K.StateSaver.state g.K.StateSaver.copies in
    let words = g.P.Payload.words in
    let b = g.M.Simulation.behaviour c.args.model.now in
    let cells = c.requires.worker.0 in
    let at = subst (λ l. EndedUpTo words b cells (map to l) c.args.states.now.items c.loop-process.states.items c.loop-process.count c.loop-process.failed) c.in-Some.ensures.steps.0 (c.loop-process.invariant cells c.requires.worker.1) in
    record { process = next_of words b cells (to c.in-Some.process) (map to c.next.new.self.rest.items) c.args.states.now.items c.loop-process.states.items c.loop-process.count c.loop-process.failed at }

pub loop-process-preserved : goal.loop-process-preserved
loop-process-preserved g c cells h =
    let to = face g.K.StateSaver.state g.K.StateSaver.copies in
    let words = g.P.Payload.words in
    let b = g.M.Simulation.behaviour c.args.model.now in
    let old = c.args.states.now.items in
    let mid = c.loop-process.states.items in
    let new = c.end_process.new.states.items in
    let left = map to c.next.new.self.rest.items in
    let at = subst (λ l. EndedUpTo words b cells (map to l) old mid c.loop-process.count c.loop-process.failed) c.in-Some.ensures.steps.0 (c.loop-process.invariant cells h) in
    let sum = c.in-Some-checked_add.ensures in
    subst (EndedUpTo words b cells left old new c.in-Some-checked_add.sum) (sym c.first_failed-failed.ensures)
    (ended_more words b cells (to c.in-Some.process) left old mid new c.loop-process.count c.in_ok-ended.ended.count c.in-Some-checked_add.sum c.loop-process.failed c.in_ok-ended.ended.failed at c.in_ok-ended.ensures.ended (omega (arith, sum)))

pub returns-clause-ended : goal.returns-clause-ended
returns-clause-ended g c cells h =
    let to = face g.K.StateSaver.state g.K.StateSaver.copies in
    let rest = c.loop-process.process-iterator.rest in
    ended_all g.P.Payload.words (g.M.Simulation.behaviour c.args.model.now) cells (map to rest.items) c.args.states.now.items c.loop-process.states.items c.loop-process.count c.loop-process.failed (ap (map to) (nothing_left rest.items (omega (arith, c.in-None.ensures.steps.0, rest.ok.0)))) (c.loop-process.invariant cells h)

pub returns-in_default-clause-many : goal.returns-in_default-clause-many
returns-in_default-clause-many g c is cells h =
    let to = face g.K.StateSaver.state g.K.StateSaver.copies in
    let words = g.P.Payload.words in
    let b = g.M.Simulation.behaviour c.args.model.now in
    let old = c.args.states.now.items in
    let mid = c.loop-process.states.items in
    let new = c.end_process.new.states.items in
    let left = map to c.next.new.self.rest.items in
    let at = subst (λ l. EndedUpTo words b cells (map to l) old mid c.loop-process.count c.loop-process.failed) c.in-Some.ensures.steps.0 (c.loop-process.invariant cells h) in
    let full = c.in_default.ensures in
    ended_many words b cells (to c.in-Some.process) left old mid new c.loop-process.count c.in_ok-ended.ended.count (2 ^ 64) c.loop-process.failed c.in_ok-ended.ended.failed at c.in_ok-ended.ensures.ended (omega (arith, full))
