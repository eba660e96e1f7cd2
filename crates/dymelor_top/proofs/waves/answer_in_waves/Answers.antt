use Rattle.std.proofs.Common.{◌≡◌, false, Some, ap, refl, sym, subst, ◌∙◌}
use Rattle.dym_gen.specs.Scripts.{generated}
use Rattle.dym_script.specs.Scripts.{ScriptMeaning, script_of}
use Rattle.dym_words.specs.Laws.{IsInputWithin}
use Rattle.dymelor_top.specs.Answers.{Answer, input_bytes, is_read, of_script, in_waves}
use Rattle.dymelor_top.specs.WaveTexts.{waves_text}
use Rattle.dymelor_top.specs.Calls.{AnswersInput, HadOrder}
use Rattle.dymelor_top.specs.Headline.{Input}
use Rattle.dymelor_top.specs.declared.stop.Stop.TheVariants as stop
use Rattle.dymelor_top.proofs.Answered.{answered_made, none_made}
use Rattle.dymelor_top.proofs.SourceReads.{passed}
use Rattle.dymelor_top.proofs.waves.answer_in_waves.Goals as goal

pub returns-in-Script : goal.returns-in-Script
returns-in-Script g c =
    let f : ScriptMeaning → Answer = in_waves c.args.waves.shape.segments (waves_text c.args.waves.text) in
    let old : Input = record { left = g.S.Source.left c.args.source.now; faults = g.S.Source.faults c.args.source.now } in
    let new : Input = record { left = g.S.Source.left c.answer_waves.new.source; faults = g.S.Source.faults c.answer_waves.new.source } in
    let a = g.W.Sink.output c.args.sink.now in
    let b = g.W.Sink.output c.answer_waves.new.sink in
    subst (λ i. AnswersInput HadOrder (is_read i) (λ bytes x. x ≡ of_script f (script_of (input_bytes i bytes))) old new a b c.answer_waves.result) (sym c.in-Script.is)
    c.answer_waves.ensures

pub generated_script-requires : goal.generated_script-requires
generated_script-requires g c = record { made = subst IsInputWithin c.in-Made.is c.requires.input }

pub returns-in_err-made-in-Made : goal.returns-in_err-made-in-Made
returns-in_err-made-in-Made g c =
    let f : ScriptMeaning → Answer = in_waves c.args.waves.shape.segments (waves_text c.args.waves.text) in
    let old : Input = record { left = g.S.Source.left c.args.source.now; faults = g.S.Source.faults c.args.source.now } in
    let a = g.W.Sink.output c.args.sink.now in
    let made = c.in-Made in
    let script = generated made.seed made.objects made.commands in
    subst (λ i. AnswersInput HadOrder (is_read i) (λ bytes x. x ≡ of_script f (script_of (input_bytes i bytes))) old old a a c.from_residual.result) (sym made.is)
    (passed (AnswersInput HadOrder false (λ bytes x. x ≡ of_script f (script_of script)) old old a a) c.from_residual.result stop.Memory c.from_residual.ensures.1
    (none_made (λ bytes x. x ≡ of_script f (script_of script)) old a))

pub returns-in_ok-made-in-Made : goal.returns-in_ok-made-in-Made
returns-in_ok-made-in-Made g c =
    let f : ScriptMeaning → Answer = in_waves c.args.waves.shape.segments (waves_text c.args.waves.text) in
    let old : Input = record { left = g.S.Source.left c.args.source.now; faults = g.S.Source.faults c.args.source.now } in
    let a = g.W.Sink.output c.args.sink.now in
    let b = g.W.Sink.output c.answer_waves-in-Made.new.sink in
    let made = c.in-Made in
    let script = generated made.seed made.objects made.commands in
    subst (λ i. AnswersInput HadOrder (is_read i) (λ bytes x. x ≡ of_script f (script_of (input_bytes i bytes))) old old a b c.answer_waves-in-Made.result)
    (sym made.is)
    (answered_made (λ bytes x. x ≡ of_script f (script_of bytes)) old _ _ a b c.answer_waves-in-Made.result script
    (ap Some (c.deref.ensures.value ∙ c.in_ok-made-in-Made.ensures)) refl refl c.answer_waves-in-Made.ensures)
