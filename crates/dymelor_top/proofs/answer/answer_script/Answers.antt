use Rattle.std.proofs.Common.{◌≡◌, true, refl}
use Rattle.dym_script.specs.Parts.{KeepsParts}
use Rattle.dym_script.specs.Scripts.{ScriptMeaning, script_of}
use Rattle.dymelor_top.specs.Answers.{Answer, of_script, report_or_summary, text_answer}
use Rattle.dymelor_top.specs.Calls.{AnswersInput, HadOrder}
use Rattle.dymelor_top.specs.Headline.{Input}
use Rattle.dymelor_top.specs.Stops.{of_write}
use Rattle.dymelor_top.proofs.Answered.{script_stopped, script_answered, told_text, cut_text}
use Rattle.dymelor_top.proofs.SourceReads.{passed}
use Rattle.dymelor_top.proofs.answer.answer_script.Goals as goal

pub returns-in_err-script : goal.returns-in_err-script
returns-in_err-script g c =
    let f : ScriptMeaning → Answer = λ said. text_answer (report_or_summary c.args.summary said) in
    let old : Input = record { left = g.R.Source.left c.args.source.now; faults = g.R.Source.faults c.args.source.now } in
    let new : Input = record { left = g.R.Source.left c.read_source.new.source; faults = g.R.Source.faults c.read_source.new.source } in
    let a = g.W.Sink.output c.args.sink.now in
    passed (AnswersInput HadOrder true (λ bytes x. x ≡ of_script f (script_of bytes)) old new a a) _ _ c.from_residual.ensures.1
    (script_stopped KeepsParts f old new a _ c.in_err-script.ensures)

pub write_plain-requires : goal.write_plain-requires
write_plain-requires g c = let some = c.in_ok-script.ensures.some in record { made = (some.1.0, some.1.2) }

pub returns-in_err-write_plain : goal.returns-in_err-write_plain
returns-in_err-write_plain g c =
    let f : ScriptMeaning → Answer = λ said. text_answer (report_or_summary c.args.summary said) in
    let old : Input = record { left = g.R.Source.left c.args.source.now; faults = g.R.Source.faults c.args.source.now } in
    let new : Input = record { left = g.R.Source.left c.read_source.new.source; faults = g.R.Source.faults c.read_source.new.source } in
    let a = g.W.Sink.output c.args.sink.now in
    let b = g.W.Sink.output c.write_plain.new.sink in
    let e = c.in_err-write_plain.field-0.0 in
    passed (AnswersInput HadOrder true (λ bytes x. x ≡ of_script f (script_of bytes)) old new a b) _ (of_write e) c.from_residual-in_err-write_plain.ensures.1
    (script_answered KeepsParts f old new a b _ _ c.in_ok-script.ensures (λ s are.
    let written = c.in_err-write_plain.ensures s are in
    cut_text (λ x. x ≡ f s) a b e (report_or_summary c.args.summary s) (λ x is. is) written.0 written.1))

pub returns : goal.returns
returns g c =
    let f : ScriptMeaning → Answer = λ said. text_answer (report_or_summary c.args.summary said) in
    let old : Input = record { left = g.R.Source.left c.args.source.now; faults = g.R.Source.faults c.args.source.now } in
    let new : Input = record { left = g.R.Source.left c.read_source.new.source; faults = g.R.Source.faults c.read_source.new.source } in
    let a = g.W.Sink.output c.args.sink.now in
    let b = g.W.Sink.output c.write_plain.new.sink in
    script_answered KeepsParts f old new a b _ _ c.in_ok-script.ensures (λ s are.
    told_text (λ x. x ≡ f s) a b _ (report_or_summary c.args.summary s) refl (c.in_ok-write_plain.ensures s are))
