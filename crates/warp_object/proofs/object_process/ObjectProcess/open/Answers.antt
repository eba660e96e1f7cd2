use Rattle.std.proofs.Common.{◌≡◌, Err, [], refl, ap, sym, subst, ◌∙◌, arith}
use Rattle.std.proofs.lemmas.List.{nil_from_length}
use Rattle.dym_base.specs.declared.command.Kind.TheVariants.{Inc}
use Rattle.dym_base.specs.Objects.{log}
use Rattle.dym_undo.specs.Answers.{IsLogAnswer}
use Rattle.dym_undo.specs.declared.log_error.LogError.{LogError}
use Rattle.dym_undo_object.specs.Meaning.{state_of}
use Rattle.warp_object.specs.Moments.{moment, dated}
use Rattle.warp_object.proofs.Ledgers.{closed_recorded}
use Rattle.warp_object.proofs.Logs.{never_refused}
use Rattle.warp_object.proofs.Opening.{idle, moment_is, opened_known, opened_of}
use Rattle.warp_process.specs.Processes.{face}
use Rattle.warp_object.proofs.object_process.ObjectProcess.open.Goals as goal

pub returns-in-Ok-clause-process : goal.returns-in-Ok-clause-process
returns-in-Ok-clause-process g c b start firsts =
    let words = g.P.Payload.words in
    let old = c.args.object.now in
    let told = c.in_ok-process.ensures in
    let f = face (λ k. k.state) (λ k. k.copies.items) c.in_ok-process.process in
    let none : old.logs ≡ [] = nil_from_length old.logs (omega arith) in
    let state = c.new-saver.ensures.state ∙ moment_is c.after.result 0 old.heap.state.live c.after.ensures in
    let h = told.process (dated b) (state ∙ ap (moment 0) start) firsts refl in
    opened_of words f told.events b old c.ilog.new.self old.heap.version Inc c.in-Ok.field-0 none c.in-Ok.ensures.answer c.in-Ok.ensures.step.object (start ∙ ap b.start (sym told.number)) h

pub returns-in-Ok-clause-recorded : goal.returns-in-Ok-clause-recorded
returns-in-Ok-clause-recorded g c =
    let words = g.P.Payload.words in
    let live = c.args.object.now.heap.state.live in
    let told = c.in_ok-process.ensures in
    let f = face (λ k. k.state) (λ k. k.copies.items) c.in_ok-process.process in
    let state = c.new-saver.ensures.state ∙ moment_is c.after.result 0 live c.after.ensures in
    let h = told.process (dated (idle live c.args.drafts.now)) state refl refl in
    closed_recorded words _ refl (opened_known words f told.events live c.args.drafts.now h)

pub unreachable-requires : goal.unreachable-requires
unreachable-requires g c =
    let old = c.args.object.now in
    let none : old.logs ≡ [] = nil_from_length old.logs (omega arith) in
    let told = subst (λ (e : LogError). IsLogAnswer (Err e) (log old.heap.version (state_of old) 0 Inc).reply) c.in-Err-Refused.field-0-is c.in-Err-Refused.ensures.answer in
    never_refused old.heap.version (state_of old) 0 Inc _ none told
