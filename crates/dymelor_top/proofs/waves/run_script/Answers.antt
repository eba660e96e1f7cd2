use Rattle.std.proofs.Common.{◌≡◌, sym, ◌∙◌}
use Rattle.dym_base.specs.declared.bad_kind.BadKind.TheVariants as bad
use Rattle.dymelor_top.specs.Answers.{in_waves}
use Rattle.dymelor_top.specs.Calls.{AnswersRead}
use Rattle.dymelor_top.specs.Stops.{of_write}
use Rattle.dymelor_top.specs.WaveTexts.{waves_text}
use Rattle.dymelor_top.proofs.Answered.{told_fault, told_text, cut_text}
use Rattle.dymelor_top.proofs.SourceReads.{passed}
use Rattle.dymelor_top.proofs.WaveFacts.{all_fit, above_answer, fitting_answer}
use Rattle.dymelor_top.proofs.waves.run_script.Goals as goal

pub returns-in-Some : goal.returns-in-Some
returns-in-Some g c s are =
    let segments = c.args.waves.shape.segments in
    let text = waves_text c.args.waves.text in
    let is = above_answer segments c.args.script s _ _ are c.deref.ensures.value c.line_above.ensures (text s) c.in-Some.line c.in-Some.is in
    told_fault (λ x. x ≡ in_waves segments text s) (g.W.Sink.output c.args.sink.now) c.in-Some.line bad.QuotaRange (sym is)

pub run_fitting-requires-clause-fits : goal.run_fitting-requires-clause-fits
run_fitting-requires-clause-fits g c κs within =
    let made = c.requires.made in
    all_fit c.args.waves.shape.segments c.args.script made.0 _ _ made.1 c.deref.ensures.value c.line_above.ensures c.in-None.is

pub returns-in_err-run_fitting-in-None : goal.returns-in_err-run_fitting-in-None
returns-in_err-run_fitting-in-None g c s are =
    let segments = c.args.waves.shape.segments in
    let text = waves_text c.args.waves.text in
    let a = g.W.Sink.output c.args.sink.now in
    let b = g.W.Sink.output c.run_fitting.new.sink in
    let e = c.in_err-run_fitting-in-None.field-0.0 in
    let is = fitting_answer segments c.args.script s _ _ are c.deref.ensures.value c.line_above.ensures (text s) c.in-None.is in
    let written = c.in_err-run_fitting-in-None.ensures s are in
    passed (AnswersRead (λ x. x ≡ in_waves segments text s) a b) _ (of_write e) c.from_residual.ensures.1
    (cut_text (λ x. x ≡ in_waves segments text s) a b e (text s) (λ x of_x. of_x ∙ is) written.0 written.1)

pub returns-in_ok-run_fitting-in-None : goal.returns-in_ok-run_fitting-in-None
returns-in_ok-run_fitting-in-None g c s are =
    let segments = c.args.waves.shape.segments in
    let text = waves_text c.args.waves.text in
    let is = fitting_answer segments c.args.script s _ _ are c.deref.ensures.value c.line_above.ensures (text s) c.in-None.is in
    told_text (λ x. x ≡ in_waves segments text s) (g.W.Sink.output c.args.sink.now) (g.W.Sink.output c.run_fitting.new.sink) _ (text s) (sym is)
    (c.in_ok-run_fitting-in-None.ensures s are)
