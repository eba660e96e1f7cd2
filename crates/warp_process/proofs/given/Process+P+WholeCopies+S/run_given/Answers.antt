use Rattle.std.proofs.lemmas.Option.{get_or_from_slice_get}
use Rattle.std.proofs.lemmas.Result.{err_from_is_err_and}
use Rattle.std.proofs.Common.{◌+◌, ◌<◌, Err, false, length, refl, ap, sym, subst, ◌∙◌}
use Rattle.warp_base.specs.declared.event.Event.{Event}
use Rattle.warp_base.specs.declared.event.Draft.{Draft}
use Rattle.warp_base.specs.Histories.{stamped}
use Rattle.warp_base.proofs.Folds.{Each-stamped}
use Rattle.warp_process.specs.Processes.{face, IsProcess}
use Rattle.warp_process.proofs.Catching.{with_state}
use Rattle.warp_process.proofs.Giving.{no_fault}
use Rattle.warp_process.proofs.Outgoing.{newly_sent}
use Rattle.warp_process.proofs.Steps.{ran_next}
use Rattle.warp_process.proofs.given.Process+P+WholeCopies+S.run_given.Goals as goal

pub returns-clause-kept : goal.returns-clause-kept
returns-clause-kept g c b past event h there state drafts faultless =
    let words = g.P.Payload.words in
    let self = c.args.self.now in
    let f = face (λ k. k.state) (λ k. k.copies.items) self in
    let now = c.finish.new.self in
    let date = self.first_date + length self.fossils.items + length now.marks.items in
    let is_e = sym (get_or_from_slice_get self.events.items (length self.marks.items) event event there) in
    let fault = no_fault self.fault (b.faulty c.args.state) date faultless in
    let next = ran_next words b past f h event event c.args.drafts.now c.args.state now.marks.items now.sent.items now.serial self.fault c.requires.more is_e state drafts c.in_ok-finish.ensures.marks c.in_ok-finish.ensures.sent c.in_ok-finish.ensures.serial c.in_ok-finish.ensures.counted fault in
    let at = record f { marks = now.marks.items; sent = now.sent.items; serial = now.serial; state = c.args.state; is_stale = false; fault = self.fault } in
    let saver = c.set_state.new.self in
    let copies = ap (λ v. v.items) c.set_state.ensures.copies ∙ ap (λ v. v.saver.copies.items) c.finish.ensures.rest in
    let all = with_state words b past at next saver.state false saver.copies.items copies (λ fresh. c.set_state.ensures.state ∙ next.state refl) in
    subst (λ v. IsProcess words b past (record (face (λ k. k.state) (λ k. k.copies.items) v) { state = saver.state; copies = saver.copies.items; is_stale = false })) (sym c.finish.ensures.rest) all

pub returns-clause-posted : goal.returns-clause-posted
returns-clause-posted g c time later =
    let words = g.P.Payload.words in
    let self = c.args.self.now in
    let sent = Each-stamped (λ (e : Event g.row.P.Denot). time < e.time) (λ (d : Draft g.row.P.Denot). time < d.time) self.number self.serial (λ d m less. less) c.args.drafts.now later in
    newly_sent words time self.sent.items (stamped self.number self.serial c.args.drafts.now) c.finish.new.self.sent.items c.args.out.now.items c.finish.new.out.items c.in_ok-finish.ensures.sent sent c.in_ok-finish.ensures.out

pub returns-in_err-finish-clause-many : goal.returns-in_err-finish-clause-many
returns-in_err-finish-clause-many g c is =
    let told = err_from_is_err_and c.from_residual.result c.from_residual.ensures.1 in
    c.in_err-finish.ensures.many (ap Err (sym told.2) ∙ sym told.1 ∙ is)
