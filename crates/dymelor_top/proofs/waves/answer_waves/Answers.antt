use Rattle.std.proofs.Common.{◌≡◌, true}
use Rattle.dym_script.specs.Parts.{KeepsParts}
use Rattle.dym_script.specs.Scripts.{ScriptMeaning, script_of}
use Rattle.dymelor_top.specs.Answers.{Answer, in_waves, of_script}
use Rattle.dymelor_top.specs.Calls.{AnswersInput, HadOrder}
use Rattle.dymelor_top.specs.Headline.{Input}
use Rattle.dymelor_top.specs.WaveTexts.{waves_text}
use Rattle.dymelor_top.proofs.Answered.{script_stopped, script_answered}
use Rattle.dymelor_top.proofs.SourceReads.{passed}
use Rattle.dymelor_top.proofs.waves.answer_waves.Goals as goal

pub returns-in_err-script : goal.returns-in_err-script
returns-in_err-script g c =
    let f : ScriptMeaning → Answer = in_waves c.args.waves.shape.segments (waves_text c.args.waves.text) in
    let old : Input = record { left = g.S.Source.left c.args.source.now; faults = g.S.Source.faults c.args.source.now } in
    let new : Input = record { left = g.S.Source.left c.read_side_by_side.new.source; faults = g.S.Source.faults c.read_side_by_side.new.source } in
    let a = g.W.Sink.output c.args.sink.now in
    passed (AnswersInput HadOrder true (λ bytes x. x ≡ of_script f (script_of bytes)) old new a a) _ _ c.from_residual.ensures.1
    (script_stopped KeepsParts f old new a _ c.in_err-script.ensures)

pub run_script-requires-clause-made : goal.run_script-requires-clause-made
run_script-requires-clause-made g c κs within = let some = c.in_ok-script.ensures.some in (some.1.0, some.1.2)

pub returns : goal.returns
returns g c =
    let f : ScriptMeaning → Answer = in_waves c.args.waves.shape.segments (waves_text c.args.waves.text) in
    let old : Input = record { left = g.S.Source.left c.args.source.now; faults = g.S.Source.faults c.args.source.now } in
    let new : Input = record { left = g.S.Source.left c.read_side_by_side.new.source; faults = g.S.Source.faults c.read_side_by_side.new.source } in
    let a = g.W.Sink.output c.args.sink.now in
    let b = g.W.Sink.output c.run_script.new.sink in
    script_answered KeepsParts f old new a b _ _ c.in_ok-script.ensures c.run_script.ensures
