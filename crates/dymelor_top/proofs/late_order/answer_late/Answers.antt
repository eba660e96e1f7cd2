use Rattle.std.proofs.Common.{◌≡◌, sym, ap, ◌∙◌}
use Rattle.dym_script.specs.Late.{LateScriptMeaning, late_of}
use Rattle.dymelor_top.specs.Answers.{Answer, of_script, text_answer}
use Rattle.dymelor_top.specs.Calls.{AnswersRead}
use Rattle.dymelor_top.specs.LateReport.{late_text}
use Rattle.dymelor_top.specs.Stops.{of_write}
use Rattle.dymelor_top.proofs.Answered.{told_text, cut_text}
use Rattle.dymelor_top.proofs.LateText.{late_failed}
use Rattle.dymelor_top.proofs.SourceReads.{passed}
use Rattle.dymelor_top.proofs.late_order.answer_late.Goals as goal

pub returns-in_err-script : goal.returns-in_err-script
returns-in_err-script g c =
    let f : LateScriptMeaning → Answer = λ said. text_answer (late_text said) in
    let a = g.W.Sink.output c.args.sink.now in
    passed (AnswersRead (λ x. x ≡ of_script f (late_of c.args.bytes.now)) a a) _ _ c.from_residual.ensures.1
    (late_failed c.args.bytes.now a c.in_err-script.field-0.0 c.in_err-script.ensures.read)

pub returns-in_err-write_late : goal.returns-in_err-write_late
returns-in_err-write_late g c =
    let f : LateScriptMeaning → Answer = λ said. text_answer (late_text said) in
    let a = g.W.Sink.output c.args.sink.now in
    let b = g.W.Sink.output c.write_late.new.sink in
    let e = c.in_err-write_late.field-0.0 in
    let written = c.in_err-write_late.ensures in
    passed (AnswersRead (λ x. x ≡ of_script f (late_of c.args.bytes.now)) a b) _ (of_write e) c.from_residual-in_err-write_late.ensures.1
    (cut_text (λ x. x ≡ of_script f (late_of c.args.bytes.now)) a b e _ (λ x is. is ∙ ap (of_script f) c.in_ok-script.ensures.read) written.0 written.1)

pub returns : goal.returns
returns g c =
    let f : LateScriptMeaning → Answer = λ said. text_answer (late_text said) in
    told_text (λ x. x ≡ of_script f (late_of c.args.bytes.now)) (g.W.Sink.output c.args.sink.now) (g.W.Sink.output c.write_late.new.sink) _ _
    (sym (ap (of_script f) c.in_ok-script.ensures.read)) c.in_ok-write_late.ensures
