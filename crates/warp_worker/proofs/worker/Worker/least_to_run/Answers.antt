use Rattle.std.proofs.Common.{◌≡◌, ℕ, ◌+◌, ◌<◌, ◌≤◌, [], ◌∷◌, ◌++◌, length, map, take, get_or, ap, sym, subst, ◌∙◌, arith}
use Rattle.std.proofs.lemmas.List.{take_more, take_all}
use Rattle.warp_base.specs.Events.{Each}
use Rattle.warp_process.specs.Processes.{ProcessFace, face}
use Rattle.warp_worker.specs.Workers.{worker_face, to_run}
use Rattle.warp_worker.specs.Moves.{TellsLeast, IsPendingFrom}
use Rattle.warp_worker.proofs.Loops.{later_from}
use Rattle.warp_worker.proofs.Replaced.{get_mapped, process_at}
use Rattle.warp_worker.proofs.Telling.{least_more, told_least, map_more}
use Rattle.warp_worker.proofs.worker.Worker.least_to_run.Goals as goal

pub loop-process-preserved : goal.loop-process-preserved
loop-process-preserved g c =
    let self = c.args.self.now in
    let see = face g.K.StateSaver.state g.K.StateSaver.copies in
    let w = worker_face g.K.StateSaver.state g.K.StateSaver.copies self in
    let items = self.processes.items in
    let i = c.loop-process.process-index in
    let x = c.process-item.result in
    let same = c.deref-process-items.ensures.value in
    let less : i < length items = subst (λ l. i < length l) same c.loop-process-test.true in
    let is : x ≡ get_or items i x = c.process-item.is ∙ ap (λ l. get_or l i x) same in
    let get = get_mapped see items i x less is in
    let process = process_at g.P.Payload.words c.requires.worker.0 c.requires.worker.1 w i (see x) c.requires.worker.2 get in
    let told = told_least g.P.Payload.words c.requires.worker.0 process.0 (see x) c.next_time_of.result process.1 c.next_time_of.ensures.some c.next_time_of.ensures.none in
    subst (TellsLeast (λ t. Each (IsPendingFrom t) (map see (take (i + 1) items)))) (sym c.lesser-least.ensures)
    (least_more IsPendingFrom (λ (f : ProcessFace g.row.P.Denot g.row.K-State.Denot) s t soon late. later_from s t (to_run f) soon late) (map see (take i items)) (map see (take (i + 1) items)) (see x) c.loop-process.least c.next_time_of.result
    (map_more see items i x less is) c.loop-process.invariant told)

pub returns : goal.returns
returns g c =
    let see = face g.K.StateSaver.state g.K.StateSaver.copies in
    let items = c.args.self.now.processes.items in
    let same = c.deref-process-items.ensures.value in
    let all : length items ≤ c.loop-process.process-index = subst (λ l. length l ≤ c.loop-process.process-index) same c.loop-process-test.false in
    subst (λ l. TellsLeast (λ t. Each (IsPendingFrom t) (map see l)) c.loop-process.least) (take_all c.loop-process.process-index items all) c.loop-process.invariant
