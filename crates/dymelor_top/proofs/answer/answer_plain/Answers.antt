use Rattle.std.proofs.Common.{◌≡◌, false, Some, ap, refl, sym, subst, ◌∙◌}
use Rattle.dym_gen.specs.Scripts.{generated}
use Rattle.dym_script.specs.Scripts.{ScriptMeaning, script_of}
use Rattle.dym_words.specs.Laws.{IsInputWithin}
use Rattle.dymelor_top.specs.Answers.{Answer, input_bytes, is_read, of_script, report_or_summary, text_answer}
use Rattle.dymelor_top.specs.Calls.{AnswersInput, HadOrder}
use Rattle.dymelor_top.specs.Headline.{Input}
use Rattle.dymelor_top.specs.declared.stop.Stop.TheVariants as stop
use Rattle.dymelor_top.proofs.Answered.{answered_made, none_made}
use Rattle.dymelor_top.proofs.SourceReads.{passed}
use Rattle.dymelor_top.proofs.answer.answer_plain.Goals as goal

pub returns-in-Script : goal.returns-in-Script
returns-in-Script g c =
    let f : ScriptMeaning → Answer = λ said. text_answer (report_or_summary c.args.summary said) in
    let old : Input = record { left = g.R.Source.left c.args.source.now; faults = g.R.Source.faults c.args.source.now } in
    let new : Input = record { left = g.R.Source.left c.answer_script.new.source; faults = g.R.Source.faults c.answer_script.new.source } in
    let a = g.W.Sink.output c.args.sink.now in
    let b = g.W.Sink.output c.answer_script.new.sink in
    subst (λ i. AnswersInput HadOrder (is_read i) (λ bytes x. x ≡ of_script f (script_of (input_bytes i bytes))) old new a b c.answer_script.result) (sym c.in-Script.is)
    c.answer_script.ensures

pub generated_script-requires : goal.generated_script-requires
generated_script-requires g c = record { made = subst IsInputWithin c.in-Made.is c.requires.input }

pub returns-in_err-made-in-Made : goal.returns-in_err-made-in-Made
returns-in_err-made-in-Made g c =
    let f : ScriptMeaning → Answer = λ said. text_answer (report_or_summary c.args.summary said) in
    let old : Input = record { left = g.R.Source.left c.args.source.now; faults = g.R.Source.faults c.args.source.now } in
    let a = g.W.Sink.output c.args.sink.now in
    let made = c.in-Made in
    let script = generated made.seed made.objects made.commands in
    subst (λ i. AnswersInput HadOrder (is_read i) (λ bytes x. x ≡ of_script f (script_of (input_bytes i bytes))) old old a a c.from_residual.result) (sym made.is)
    (passed (AnswersInput HadOrder false (λ bytes x. x ≡ of_script f (script_of script)) old old a a) c.from_residual.result stop.Memory c.from_residual.ensures.1
    (none_made (λ bytes x. x ≡ of_script f (script_of script)) old a))

pub returns-in_ok-made-in-Made : goal.returns-in_ok-made-in-Made
returns-in_ok-made-in-Made g c =
    let f : ScriptMeaning → Answer = λ said. text_answer (report_or_summary c.args.summary said) in
    let old : Input = record { left = g.R.Source.left c.args.source.now; faults = g.R.Source.faults c.args.source.now } in
    let a = g.W.Sink.output c.args.sink.now in
    let b = g.W.Sink.output c.answer_script-in-Made.new.sink in
    let made = c.in-Made in
    let script = generated made.seed made.objects made.commands in
    subst (λ i. AnswersInput HadOrder (is_read i) (λ bytes x. x ≡ of_script f (script_of (input_bytes i bytes))) old old a b c.answer_script-in-Made.result)
    (sym made.is)
    (answered_made (λ bytes x. x ≡ of_script f (script_of bytes)) old _ _ a b c.answer_script-in-Made.result script
    (ap Some (c.deref.ensures.value ∙ c.in_ok-made-in-Made.ensures)) refl refl c.answer_script-in-Made.ensures)
