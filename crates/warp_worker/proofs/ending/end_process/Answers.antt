use Rattle.std.proofs.Common.{◌≡◌, ◌+◌, ◌<◌, ◌^◌, [], ◌∷◌, ◌++◌, length, take, ap, sym, subst, ◌∙◌, arith, length-append}
use Rattle.std.proofs.lemmas.List.{length-take-le}
use Rattle.warp_base.specs.Histories.{state_after}
use Rattle.warp_process.specs.Processes.{face, done_of}
use Rattle.warp_worker.specs.Endings.{told_of}
use Rattle.warp_worker.proofs.Endings.{ended_one}
use Rattle.warp_worker.proofs.ending.end_process.Goals as goal

pub date-count-requires : goal.date-count-requires
date-count-requires g c =
    let past = c.requires.process.0 in
    let h = c.in_ok-catch_up.ensures.kept past c.requires.process.1 in
    let now = c.catch_up.new.self in
    let all = length-append past (take (length now.marks.items) now.events.items) in
    let few = length-take-le (length now.marks.items) now.events.items h.ran_within in
    let dates = h.dates in
    let counted = h.counted in
    record { counted = omega (arith, all, few, dates, counted) }

pub returns-clause-ended : goal.returns-clause-ended
returns-clause-ended g c past h =
    let words = g.P.Payload.words in
    let b = g.M.Simulation.behaviour c.args.model.now in
    let to = face g.K.StateSaver.state g.K.StateSaver.copies in
    let process = c.args.process in
    let now = c.catch_up.new.self in
    let rest = c.catch_up.ensures.rest in
    let hc = c.in_ok-catch_up.ensures.kept past h in
    let state = c.into_state.ensures ∙ subst (λ v. g.K.StateSaver.state now.saver ≡ state_after b v.number (done_of past (to v))) rest (hc.state c.in_ok-catch_up.ensures.fresh) in
    let count = c.date-count.ensures ∙ ap (λ v. v.first_date + length v.fossils.items + length v.marks.items) rest in
    let told = c.failed_with-failed.ensures ∙ ap (λ t. told_of t c.number.result) (c.fault.ensures ∙ ap (λ v. v.fault) rest) ∙ ap (told_of process.fault) (c.number.ensures ∙ ap (λ v. v.number) rest) in
    ended_one words b past (to process) c.args.states.now.items c.push_reserved.new.self.items c.into_state.result c.date-count.result h state (c.push_reserved.ensures.items ∙ ap (λ l. l ++ c.into_state.result ∷ []) c.in_ok-reserve.ensures.items) count c.failed_with-failed.result told
