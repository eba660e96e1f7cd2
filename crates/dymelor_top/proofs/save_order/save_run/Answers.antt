use Rattle.std.proofs.Common.{◌≡◌, ◌≤◌, length, sym, ap, subst, ◌∙◌, OnOk, arith}
use Rattle.dym_base.specs.declared.limits.TheConstants.{MOST_INPUT_BYTES}
use Rattle.dym_heap.specs.Meaning.{HeapMeaning}
use Rattle.dym_object.specs.Meaning.{HasRun}
use Rattle.dym_script.specs.OwnCommands.{own_of}
use Rattle.dym_ckpt.specs.SavedFiles.{AreOf, file_of_logs}
use Rattle.dymelor_top.specs.Answers.{Answer, file_answer}
use Rattle.dymelor_top.specs.Calls.{AnswersRead}
use Rattle.dymelor_top.specs.Checkpoints.{own_file}
use Rattle.dymelor_top.specs.declared.stop.Stop.TheVariants as stop
use Rattle.dymelor_top.proofs.Answered.{told_text, cut_by_sink, wanted_memory}
use Rattle.dymelor_top.proofs.SavedFacts.{saved_is}
use Rattle.dymelor_top.proofs.SourceReads.{passed}
use Rattle.dymelor_top.proofs.save_order.save_run.Goals as goal

pub save-requires-clause-records : goal.save-requires-clause-records
save-requires-clause-records g c =
    let o = c.args.object.now in
    let version : c.version-version.result ≡ o.heap.version = c.version-version.ensures ∙ ap (λ (h : HeapMeaning). h.version) c.heap.ensures.heap in
    subst (AreOf c.version-version.result) (sym c.saved_len.ensures.same) (subst (λ v. AreOf v o.chain) (sym version) c.requires.whole.belongs.records)

pub returns-in_err-ran-clause-answered : goal.returns-in_err-ran-clause-answered
returns-in_err-ran-clause-answered g c =
    let a = g.W.Sink.output c.args.sink.now in
    let o = c.args.object.now in
    passed (AnswersRead (λ x. x ≡ file_answer (own_file o.heap.version (own_of c.args.part.now))) a a) _ stop.Memory c.from_residual.ensures.1 (wanted_memory _ a)

pub returns-in_err-save-clause-answered : goal.returns-in_err-save-clause-answered
returns-in_err-save-clause-answered g c =
    let a = g.W.Sink.output c.args.sink.now in
    let b = g.W.Sink.output c.save.new.sink in
    let o = c.args.object.now in
    let part = c.args.part.now in
    let Is : Answer → Type 0 = λ x. x ≡ file_answer (own_file o.heap.version (own_of part)) in
    let has : HasRun part.commands o = subst (λ r. OnOk r (HasRun part.commands o)) c.in_ok-ran.was c.requires.run in
    let version : c.version-version.result ≡ o.heap.version = c.version-version.ensures ∙ ap (λ (h : HeapMeaning). h.version) c.heap.ensures.heap in
    let short : length (file_of_logs part.decl.name part.decl.quota o.heap.version o.chain) ≤ MOST_INPUT_BYTES =
    omega (arith, c.if-saved_len.false, c.saved_len.ensures.len o.heap.version part.decl.quota c.requires.whole.belongs.records) in
    let is = saved_is o part _ _ has c.requires.quota version c.saved_len.ensures.same short in
    passed (AnswersRead Is a b) _ stop.Sink c.from_residual-in_err-save.ensures.1
    (cut_by_sink Is a b _ (λ x of_x. of_x ∙ is) c.in_err-save.ensures.written)

pub returns-clause-answered : goal.returns-clause-answered
returns-clause-answered g c =
    let a = g.W.Sink.output c.args.sink.now in
    let b = g.W.Sink.output c.save.new.sink in
    let o = c.args.object.now in
    let part = c.args.part.now in
    let Is : Answer → Type 0 = λ x. x ≡ file_answer (own_file o.heap.version (own_of part)) in
    let has : HasRun part.commands o = subst (λ r. OnOk r (HasRun part.commands o)) c.in_ok-ran.was c.requires.run in
    let version : c.version-version.result ≡ o.heap.version = c.version-version.ensures ∙ ap (λ (h : HeapMeaning). h.version) c.heap.ensures.heap in
    let short : length (file_of_logs part.decl.name part.decl.quota o.heap.version o.chain) ≤ MOST_INPUT_BYTES =
    omega (arith, c.if-saved_len.false, c.saved_len.ensures.len o.heap.version part.decl.quota c.requires.whole.belongs.records) in
    let is = saved_is o part _ _ has c.requires.quota version c.saved_len.ensures.same short in
    told_text Is a b _ _ (sym is) c.in_ok-save.ensures.written
