use Rattle.std.proofs.Common.{◌<◌, ◌≤◌, length, refl, subst, arith}
use Rattle.dym_base.specs.declared.limits.TheConstants.{MOST_INPUT_BYTES}
use Rattle.dym_base.specs.declared.bad_kind.BadKind.TheVariants as bad
use Rattle.dym_report.specs.Orders.{events_text}
use Rattle.dym_trace.specs.Verdict.{IsVerdict}
use Rattle.dym_trace.specs.declared.answer.TraceAnswer.TheVariants as verdict
use Rattle.dymelor_top.specs.Answers.{text_answer, fault_answer, IsJudged, IsTraceAnswer}
use Rattle.dymelor_top.specs.Calls.{AnswersRead}
use Rattle.dymelor_top.specs.declared.stop.Stop.TheVariants as stop
use Rattle.dymelor_top.proofs.Answered.{told_fault, told_text, cut_by_sink, wanted_memory}
use Rattle.dymelor_top.proofs.FileAnswers.{tested_long, tested_short}
use Rattle.dymelor_top.proofs.Served.{one_trace}
use Rattle.dymelor_top.proofs.SourceReads.{passed}
use Rattle.dymelor_top.proofs.answer.answer_trace.Goals as goal

pub returns-then-bytes-gt-MOST_INPUT_BYTES : goal.returns-then-bytes-gt-MOST_INPUT_BYTES
returns-then-bytes-gt-MOST_INPUT_BYTES g c =
    let bytes = c.args.bytes.now in
    let long : MOST_INPUT_BYTES < length bytes = omega (arith, c.if-bytes-gt-MOST_INPUT_BYTES.true) in
    told_fault (IsTraceAnswer bytes) (g.W.Sink.output c.args.sink.now) 0 bad.TooLong (tested_long (IsJudged bytes) bytes long)

pub returns-in_err-events : goal.returns-in_err-events
returns-in_err-events g c =
    let Is = IsTraceAnswer c.args.bytes.now in
    let a = g.W.Sink.output c.args.sink.now in
    passed (AnswersRead Is a a) _ stop.Memory c.from_residual.ensures.1 (wanted_memory Is a)

pub returns-in_err-write_events-in-Good : goal.returns-in_err-write_events-in-Good
returns-in_err-write_events-in-Good g c =
    let bytes = c.args.bytes.now in
    let a = g.W.Sink.output c.args.sink.now in
    let b = g.W.Sink.output c.write_events.new.sink in
    let text = events_text c.in-Good.events in
    let short : length bytes ≤ MOST_INPUT_BYTES = omega (arith, c.if-bytes-gt-MOST_INPUT_BYTES.false) in
    let right : IsVerdict bytes (verdict.Good c.in-Good.events) = subst (IsVerdict bytes) c.in-Good.is c.in_ok-events.ensures in
    let is : IsTraceAnswer bytes (text_answer text) =
    tested_short (IsJudged bytes) bytes (text_answer text) short (record { verdict = verdict.Good c.in-Good.events; right = right; is = refl }) in
    passed (AnswersRead (IsTraceAnswer bytes) a b) _ stop.Sink c.from_residual-in_err-write_events-in-Good.ensures.1
    (cut_by_sink (IsTraceAnswer bytes) a b text (λ x of_x. one_trace bytes x (text_answer text) of_x is) c.in_err-write_events-in-Good.ensures)

pub returns-in_ok-write_events-in-Good : goal.returns-in_ok-write_events-in-Good
returns-in_ok-write_events-in-Good g c =
    let bytes = c.args.bytes.now in
    let text = events_text c.in-Good.events in
    let short : length bytes ≤ MOST_INPUT_BYTES = omega (arith, c.if-bytes-gt-MOST_INPUT_BYTES.false) in
    let right : IsVerdict bytes (verdict.Good c.in-Good.events) = subst (IsVerdict bytes) c.in-Good.is c.in_ok-events.ensures in
    let is : IsTraceAnswer bytes (text_answer text) =
    tested_short (IsJudged bytes) bytes (text_answer text) short (record { verdict = verdict.Good c.in-Good.events; right = right; is = refl }) in
    told_text (IsTraceAnswer bytes) (g.W.Sink.output c.args.sink.now) (g.W.Sink.output c.write_events.new.sink) _ text is c.in_ok-write_events-in-Good.ensures

pub returns-in-Bad : goal.returns-in-Bad
returns-in-Bad g c =
    let bytes = c.args.bytes.now in
    let line = c.in-Bad.line in
    let short : length bytes ≤ MOST_INPUT_BYTES = omega (arith, c.if-bytes-gt-MOST_INPUT_BYTES.false) in
    let right : IsVerdict bytes (verdict.Bad line) = subst (IsVerdict bytes) c.in-Bad.is c.in_ok-events.ensures in
    let is : IsTraceAnswer bytes (fault_answer line bad.Step) =
    tested_short (IsJudged bytes) bytes (fault_answer line bad.Step) short (record { verdict = verdict.Bad line; right = right; is = refl }) in
    told_fault (IsTraceAnswer bytes) (g.W.Sink.output c.args.sink.now) line bad.Step is
