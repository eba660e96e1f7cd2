use Rattle.std.proofs.Common.{◌<◌, ◌≤◌, ◌⊎◌, length, refl, arith}
use Rattle.dym_base.specs.declared.limits.TheConstants.{MOST_INPUT_BYTES}
use Rattle.dym_base.specs.declared.bad_kind.BadKind.TheVariants as bad
use Rattle.dymelor_top.specs.Answers.{IsLoadedText, IsPartFault, IsLoadAnswer, text_answer}
use Rattle.dymelor_top.specs.Calls.{AnswersRead}
use Rattle.dymelor_top.specs.Checkpoints.{loaded_text}
use Rattle.dymelor_top.specs.declared.stop.Stop.TheVariants as stop
use Rattle.dymelor_top.proofs.Answered.{told_fault, told_text, cut_by_sink}
use Rattle.dymelor_top.proofs.FileAnswers.{tested_long, file_failed}
use Rattle.dymelor_top.proofs.LoadedFacts.{loaded_answer}
use Rattle.dymelor_top.proofs.Served.{one_load}
use Rattle.dymelor_top.proofs.SourceReads.{passed}
use Rattle.dymelor_top.proofs.load_order.answer_loaded.Goals as goal

pub returns-then-file-gt-MOST_INPUT_BYTES : goal.returns-then-file-gt-MOST_INPUT_BYTES
returns-then-file-gt-MOST_INPUT_BYTES g c =
    let bytes = c.args.file.now in
    let long : MOST_INPUT_BYTES < length bytes = omega (arith, c.if-file-gt-MOST_INPUT_BYTES.true) in
    told_fault (IsLoadAnswer c.args.time bytes) (g.W.Sink.output c.args.sink.now) 0 bad.TooLong
    (tested_long (λ x. IsLoadedText c.args.time bytes x ⊎ IsPartFault bytes x) bytes long)

pub returns-in_err-loaded : goal.returns-in_err-loaded
returns-in_err-loaded g c =
    let bytes = c.args.file.now in
    let a = g.W.Sink.output c.args.sink.now in
    let short : length bytes ≤ MOST_INPUT_BYTES = omega (arith, c.if-file-gt-MOST_INPUT_BYTES.false) in
    passed (AnswersRead (IsLoadAnswer c.args.time bytes) a a) _ _ c.from_residual.ensures.1
    (file_failed c.args.time bytes a short c.in_err-loaded.field-0.0 c.in_err-loaded.ensures.fails)

pub returns-in_err-write_loaded : goal.returns-in_err-write_loaded
returns-in_err-write_loaded g c =
    let bytes = c.args.file.now in
    let a = g.W.Sink.output c.args.sink.now in
    let b = g.W.Sink.output c.write_loaded.new.sink in
    let short : length bytes ≤ MOST_INPUT_BYTES = omega (arith, c.if-file-gt-MOST_INPUT_BYTES.false) in
    let is = c.in_ok-loaded.ensures.loaded in
    let text = loaded_text c.args.time is.head c.in_ok-loaded.loaded.chain.logs in
    let told = loaded_answer c.args.time bytes bytes c.in_ok-loaded.loaded refl short is in
    passed (AnswersRead (IsLoadAnswer c.args.time bytes) a b) _ stop.Sink c.from_residual-in_err-write_loaded.ensures.1
    (cut_by_sink (IsLoadAnswer c.args.time bytes) a b text (λ x of_x. one_load c.args.time bytes x (text_answer text) of_x told)
    (c.in_err-write_loaded.ensures bytes is))

pub returns : goal.returns
returns g c =
    let bytes = c.args.file.now in
    let short : length bytes ≤ MOST_INPUT_BYTES = omega (arith, c.if-file-gt-MOST_INPUT_BYTES.false) in
    let is = c.in_ok-loaded.ensures.loaded in
    told_text (IsLoadAnswer c.args.time bytes) (g.W.Sink.output c.args.sink.now) (g.W.Sink.output c.write_loaded.new.sink) _
    (loaded_text c.args.time is.head c.in_ok-loaded.loaded.chain.logs)
    (loaded_answer c.args.time bytes bytes c.in_ok-loaded.loaded refl short is) (c.in_ok-write_loaded.ensures bytes is)
