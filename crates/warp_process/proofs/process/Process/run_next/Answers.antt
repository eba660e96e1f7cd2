use Rattle.std.proofs.lemmas.Result.{err_from_is_err_and}
use Rattle.std.proofs.Common.{◌≡◌, ◌+◌, Err, ◌<◌, ◌++◌, true, false, Some, slice_get, length, get_or, refl, ap, sym, subst, ◌∙◌, arith}
use Rattle.std.proofs.lemmas.Option.{slice_get_read}
use Rattle.warp_base.specs.declared.event.Event.{Event}
use Rattle.warp_process.specs.Processes.{face, IsProcess, HasPosted, IsTooMany, fault_with}
use Rattle.warp_process.proofs.Steps.{ran_next, posted_next, too_many}
use Rattle.warp_process.proofs.Catching.{with_state}
use Rattle.warp_process.proofs.process.Process.run_next.Goals as goal

pub returns-in_err-finish-clause-kept : goal.returns-in_err-finish-clause-kept
returns-in_err-finish-clause-kept g c past h =
    let words = g.P.Payload.words in
    let b = g.M.Simulation.behaviour c.args.model.now in
    let f = face g.K.StateSaver.state g.K.StateSaver.copies c.make_ready.new.self in
    subst (IsProcess words b past) (sym c.in_err-finish.ensures.unchanged)
    (with_state words b past f (c.in_ok-make_ready.ensures.kept past h) (g.K.StateSaver.state c.run.new.self) true (g.K.StateSaver.copies c.run.new.self) c.run.ensures.copies (λ fresh. cc))

pub returns-clause-kept : goal.returns-clause-kept
returns-clause-kept g c past h =
    let words = g.P.Payload.words in
    let b = g.M.Simulation.behaviour c.args.model.now in
    let now = c.make_ready.new.self in
    let p = now.number in
    let f = face g.K.StateSaver.state g.K.StateSaver.copies now in
    let hc = c.in_ok-make_ready.ensures.kept past h in
    let e = c.index.result.now in
    let state = hc.state c.in_ok-make_ready.ensures.fresh in
    let same_marks = ap (λ v. length v.marks.items) c.make_ready.ensures.rest in
    let same_events = ap (λ v. length v.events.items) c.make_ready.ensures.rest in
    let more : length now.marks.items < length now.events.items = omega (arith, same_marks, same_events, c.requires.more) in
    let count : c.len.result ≡ length now.marks.items = omega (arith, c.len.ensures, now.marks.ok.0) in
    let is_e : e ≡ get_or now.events.items (length now.marks.items) e = c.index.ensures ∙ ap (λ j. get_or now.events.items j e) count in
    let new_state = g.K.StateSaver.state c.run.new.self in
    let drafts = c.deref.ensures.value ∙ c.in_ok-run.ensures.sent ∙ ap (λ l. l ++ b.drafts p (g.K.StateSaver.state now.saver) e) c.new-drafts.ensures.items ∙ ap (λ t. b.drafts p t e) state in
    let new_fault = c.note_fault.new.self.fault in
    let fault = subst (λ v. new_fault ≡ fault_with v.fault (b.faulty (g.K.StateSaver.state v.saver)) (v.first_date + length v.fossils.items + length c.finish.new.self.marks.items)) c.finish.ensures.rest c.note_fault.ensures.fault in
    let next = ran_next words b past f hc e e c.deref.result.now new_state c.finish.new.self.marks.items c.finish.new.self.sent.items c.finish.new.self.serial new_fault more is_e (c.in_ok-run.ensures.state ∙ ap (λ t. b.after p t e) state) drafts c.in_ok-finish.ensures.marks c.in_ok-finish.ensures.sent c.in_ok-finish.ensures.serial c.in_ok-finish.ensures.counted fault in
    let at = record f { marks = c.finish.new.self.marks.items; sent = c.finish.new.self.sent.items; serial = c.finish.new.self.serial; state = new_state; is_stale = false; fault = new_fault } in
    let all = with_state words b past at next new_state false (g.K.StateSaver.copies c.run.new.self) c.run.ensures.copies (λ fresh. next.state refl) in
    subst (λ v. IsProcess words b past (face g.K.StateSaver.state g.K.StateSaver.copies v)) (sym c.note_fault.ensures.rest)
    (subst (λ v. IsProcess words b past (record (face g.K.StateSaver.state g.K.StateSaver.copies v) { is_stale = false; fault = new_fault })) (sym c.finish.ensures.rest) all)

pub returns-clause-posted : goal.returns-clause-posted
returns-clause-posted g c event there =
    let words = g.P.Payload.words in
    let b = g.M.Simulation.behaviour c.args.model.now in
    let self = c.args.self.now in
    let now = c.make_ready.new.self in
    let p = now.number in
    let past = c.requires.process.0 in
    let f = face g.K.StateSaver.state g.K.StateSaver.copies now in
    let hc = c.in_ok-make_ready.ensures.kept past c.requires.process.1 in
    let e = c.index.result.now in
    let rest = c.make_ready.ensures.rest in
    let same_marks = ap (λ v. length v.marks.items) rest in
    let same_events = ap (λ v. length v.events.items) rest in
    let more : length now.marks.items < length now.events.items = omega (arith, same_marks, same_events, c.requires.more) in
    let count : c.len.result ≡ length now.marks.items = omega (arith, c.len.ensures, now.marks.ok.0) in
    let is_e : e ≡ get_or now.events.items (length now.marks.items) e = c.index.ensures ∙ ap (λ j. get_or now.events.items j e) count in
    let read = slice_get_read now.events.items (length now.events.items) (length now.marks.items) e refl more is_e in
    let both : Some e ≡ Some event = sym read ∙ ap (λ v. slice_get v.events.items (length v.marks.items)) rest ∙ there in
    let one : e ≡ event = cc in
    let s = g.K.StateSaver.state now.saver in
    let drafts = c.deref.ensures.value ∙ c.in_ok-run.ensures.sent ∙ ap (λ l. l ++ b.drafts p s e) c.new-drafts.ensures.items in
    let posted = posted_next words b past f hc (g.met.M.Simulation.looks_ahead c.args.model.now) e c.deref.result.now s c.finish.new.self.sent.items c.args.out.now.items c.finish.new.out.items drafts c.in_ok-finish.ensures.sent c.in_ok-finish.ensures.out in
    let here = subst (λ (x : Event g.row.P.Denot). HasPosted words x.time now.sent.items c.finish.new.self.sent.items c.args.out.now.items c.finish.new.out.items) one posted in
    subst (λ l. HasPosted words event.time c.args.self.now.sent.items l c.args.out.now.items c.finish.new.out.items) (sym (ap (λ v. v.sent.items) c.note_fault.ensures.rest))
    (subst (λ l. HasPosted words event.time l c.finish.new.self.sent.items c.args.out.now.items c.finish.new.out.items) (ap (λ v. v.sent.items) rest) here)

pub returns-in_err-finish-clause-many : goal.returns-in_err-finish-clause-many
returns-in_err-finish-clause-many g c past event h there is =
    let words = g.P.Payload.words in
    let b = g.M.Simulation.behaviour c.args.model.now in
    let now = c.make_ready.new.self in
    let p = now.number in
    let f = face g.K.StateSaver.state g.K.StateSaver.copies now in
    let hc = c.in_ok-make_ready.ensures.kept past h in
    let e = c.index.result.now in
    let rest = c.make_ready.ensures.rest in
    let same_marks = ap (λ v. length v.marks.items) rest in
    let same_events = ap (λ v. length v.events.items) rest in
    let more : length now.marks.items < length now.events.items = omega (arith, same_marks, same_events, c.requires.more) in
    let count : c.len.result ≡ length now.marks.items = omega (arith, c.len.ensures, now.marks.ok.0) in
    let is_e : e ≡ get_or now.events.items (length now.marks.items) e = c.index.ensures ∙ ap (λ j. get_or now.events.items j e) count in
    let read = slice_get_read now.events.items (length now.events.items) (length now.marks.items) e refl more is_e in
    let both : Some e ≡ Some event = sym read ∙ ap (λ v. slice_get v.events.items (length v.marks.items)) rest ∙ there in
    let one : e ≡ event = cc in
    let state = hc.state c.in_ok-make_ready.ensures.fresh in
    let drafts = c.deref.ensures.value ∙ c.in_ok-run.ensures.sent ∙ ap (λ l. l ++ b.drafts p (g.K.StateSaver.state now.saver) e) c.new-drafts.ensures.items ∙ ap (λ t. b.drafts p t e) state in
    let told = err_from_is_err_and c.from_residual-in_err-finish.result c.from_residual-in_err-finish.ensures.1 in
    let same = ap Err (sym told.2) ∙ sym told.1 ∙ is in
    let here = too_many words b past f hc e c.deref.result.now drafts (c.in_err-finish.ensures.many same) in
    subst (λ v. IsTooMany b past (face g.K.StateSaver.state g.K.StateSaver.copies v) event) rest (subst (IsTooMany b past f) one here)
