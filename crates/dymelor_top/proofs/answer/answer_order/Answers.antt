use Rattle.std.proofs.Common.{◌≡◌, Ok, sym, subst}
use Rattle.dym_script.specs.Late.{late_of}
use Rattle.dym_words.specs.Laws.{IsWithin, CanBeMade}
use Rattle.dym_words.specs.declared.order.Order.TheVariants as order
use Rattle.dymelor_top.specs.Answers.{IsTraceAnswer, IsLoadAnswer, counts_of, named_answer, of_script, text_answer}
use Rattle.dymelor_top.specs.Calls.{AnswersOrder, SameVerdict}
use Rattle.dymelor_top.specs.Checkpoints.{own_named}
use Rattle.dymelor_top.specs.Headline.{Input, without_threads}
use Rattle.dymelor_top.specs.LateReport.{late_text}
use Rattle.dymelor_top.proofs.Answered.{script_stopped, script_answered, stopped_reading, answered_bytes, generated_whole, generated_cut}
use Rattle.dymelor_top.proofs.SourceReads.{passed}
use Rattle.dymelor_top.proofs.WholeInput.{same_trace, same_load, same_late}
use Rattle.dymelor_top.proofs.answer.answer_order.Goals as goal

pub answer_plain-requires-clause-input : goal.answer_plain-requires-clause-input
answer_plain-requires-clause-input g c = subst IsWithin c.in-Plain.is c.requires.within

pub returns-in-Plain : goal.returns-in-Plain
returns-in-Plain g c =
    let old : Input = record { left = g.R.Source.left c.args.source.now; faults = g.R.Source.faults c.args.source.now } in
    let new : Input = record { left = g.R.Source.left c.answer_plain.new.source; faults = g.R.Source.faults c.answer_plain.new.source } in
    let a = g.W.Sink.output c.args.sink.now in
    let b = g.W.Sink.output c.answer_plain.new.sink in
    subst (λ o. AnswersOrder (without_threads (Ok o)) old new a b c.answer_plain.result) (sym c.in-Plain.is) c.answer_plain.ensures

pub answer_counts-requires : goal.answer_counts-requires
answer_counts-requires g c = let some = c.in_ok-script-in-Check.ensures.some in record { made = (some.1.0, some.1.2) }

pub returns-in_err-script-in-Check : goal.returns-in_err-script-in-Check
returns-in_err-script-in-Check g c =
    let old : Input = record { left = g.R.Source.left c.args.source.now; faults = g.R.Source.faults c.args.source.now } in
    let new : Input = record { left = g.R.Source.left c.read_source.new.source; faults = g.R.Source.faults c.read_source.new.source } in
    let a = g.W.Sink.output c.args.sink.now in
    subst (λ o. AnswersOrder (without_threads (Ok o)) old new a a c.from_residual.result) (sym c.in-Check.is)
    (passed (AnswersOrder (Ok order.Check) old new a a) c.from_residual.result _ c.from_residual.ensures.1
    (script_stopped _ (λ said. text_answer (counts_of said)) old new a _ c.in_err-script-in-Check.ensures))

pub returns-in_ok-script-in-Check : goal.returns-in_ok-script-in-Check
returns-in_ok-script-in-Check g c =
    let old : Input = record { left = g.R.Source.left c.args.source.now; faults = g.R.Source.faults c.args.source.now } in
    let new : Input = record { left = g.R.Source.left c.read_source.new.source; faults = g.R.Source.faults c.read_source.new.source } in
    let a = g.W.Sink.output c.args.sink.now in
    let b = g.W.Sink.output c.answer_counts.new.sink in
    subst (λ o. AnswersOrder (without_threads (Ok o)) old new a b c.answer_counts.result) (sym c.in-Check.is)
    (script_answered _ (λ said. text_answer (counts_of said)) old new a b _ _ c.in_ok-script-in-Check.ensures c.answer_counts.ensures)

pub gen_script-requires-clause-some : goal.gen_script-requires-clause-some
gen_script-requires-clause-some g c = let fit : CanBeMade c.in-Gen.objects c.in-Gen.commands = subst IsWithin c.in-Gen.is c.requires.within in fit.some

pub gen_script-requires-clause-objects : goal.gen_script-requires-clause-objects
gen_script-requires-clause-objects g c = let fit : CanBeMade c.in-Gen.objects c.in-Gen.commands = subst IsWithin c.in-Gen.is c.requires.within in fit.objects_fit

pub gen_script-requires-clause-commands : goal.gen_script-requires-clause-commands
gen_script-requires-clause-commands g c = let fit : CanBeMade c.in-Gen.objects c.in-Gen.commands = subst IsWithin c.in-Gen.is c.requires.within in fit.commands_fit

pub returns-in_err-gen_script-in-Gen : goal.returns-in_err-gen_script-in-Gen
returns-in_err-gen_script-in-Gen g c =
    let old : Input = record { left = g.R.Source.left c.args.source.now; faults = g.R.Source.faults c.args.source.now } in
    let a = g.W.Sink.output c.args.sink.now in
    let b = g.W.Sink.output c.gen_script.new.sink in
    let made = c.in-Gen in
    subst (λ o. AnswersOrder (without_threads (Ok o)) old old a b c.from_residual-in_err-gen_script-in-Gen.result) (sym made.is)
    (passed (AnswersOrder (Ok (order.Gen made.seed made.objects made.commands)) old old a b) c.from_residual-in_err-gen_script-in-Gen.result _
    c.from_residual-in_err-gen_script-in-Gen.ensures.1
    (generated_cut made.seed made.objects made.commands old a b c.in_err-gen_script-in-Gen.ensures))

pub returns-in_ok-gen_script-in-Gen : goal.returns-in_ok-gen_script-in-Gen
returns-in_ok-gen_script-in-Gen g c =
    let old : Input = record { left = g.R.Source.left c.args.source.now; faults = g.R.Source.faults c.args.source.now } in
    let a = g.W.Sink.output c.args.sink.now in
    let b = g.W.Sink.output c.gen_script.new.sink in
    let made = c.in-Gen in
    subst (λ o. AnswersOrder (without_threads (Ok o)) old old a b (Ok tt)) (sym made.is)
    (generated_whole made.seed made.objects made.commands old a b tt c.in_ok-gen_script-in-Gen.ensures)

pub returns-in_err-bytes-in-Trace : goal.returns-in_err-bytes-in-Trace
returns-in_err-bytes-in-Trace g c =
    let old : Input = record { left = g.R.Source.left c.args.source.now; faults = g.R.Source.faults c.args.source.now } in
    let new : Input = record { left = g.R.Source.left c.read_input.new.source; faults = g.R.Source.faults c.read_input.new.source } in
    let a = g.W.Sink.output c.args.sink.now in
    subst (λ o. AnswersOrder (without_threads (Ok o)) old new a a c.from_residual-in_err-bytes-in-Trace.result) (sym c.in-Trace.is)
    (passed (AnswersOrder (Ok order.Trace) old new a a) c.from_residual-in_err-bytes-in-Trace.result _ c.from_residual-in_err-bytes-in-Trace.ensures.1
    (stopped_reading _ (λ bytes x. IsTraceAnswer bytes x) old new a _ (λ bytes line kind no. absurd no) c.in_err-bytes-in-Trace.ensures))

pub returns-in_ok-bytes-in-Trace : goal.returns-in_ok-bytes-in-Trace
returns-in_ok-bytes-in-Trace g c =
    let old : Input = record { left = g.R.Source.left c.args.source.now; faults = g.R.Source.faults c.args.source.now } in
    let new : Input = record { left = g.R.Source.left c.read_input.new.source; faults = g.R.Source.faults c.read_input.new.source } in
    let a = g.W.Sink.output c.args.sink.now in
    let b = g.W.Sink.output c.answer_trace.new.sink in
    subst (λ o. AnswersOrder (without_threads (Ok o)) old new a b c.answer_trace.result) (sym c.in-Trace.is)
    (answered_bytes _ (λ bytes x. IsTraceAnswer bytes x) old new a b _ _ c.deref.result.now c.in_ok-bytes-in-Trace.ensures c.answer_trace.ensures
    (λ bytes told. subst (λ l. SameVerdict l bytes) (sym c.deref.ensures.value) told) same_trace)

pub answer_saved-requires : goal.answer_saved-requires
answer_saved-requires g c = let some = c.in_ok-script-in-Save.ensures.some in record { made = (some.1.0, some.1.2) }

pub returns-in_err-script-in-Save : goal.returns-in_err-script-in-Save
returns-in_err-script-in-Save g c =
    let old : Input = record { left = g.R.Source.left c.args.source.now; faults = g.R.Source.faults c.args.source.now } in
    let new : Input = record { left = g.R.Source.left c.read_source-in-Save.new.source; faults = g.R.Source.faults c.read_source-in-Save.new.source } in
    let a = g.W.Sink.output c.args.sink.now in
    subst (λ o. AnswersOrder (without_threads (Ok o)) old new a a c.from_residual-in_err-script-in-Save.result) (sym c.in-Save.is)
    (passed (AnswersOrder (Ok (order.Save c.in-Save.name)) old new a a) c.from_residual-in_err-script-in-Save.result _ c.from_residual-in_err-script-in-Save.ensures.1
    (script_stopped _ (λ said. named_answer said.version (own_named c.in-Save.name said)) old new a _ c.in_err-script-in-Save.ensures))

pub returns-in_ok-script-in-Save : goal.returns-in_ok-script-in-Save
returns-in_ok-script-in-Save g c =
    let old : Input = record { left = g.R.Source.left c.args.source.now; faults = g.R.Source.faults c.args.source.now } in
    let new : Input = record { left = g.R.Source.left c.read_source-in-Save.new.source; faults = g.R.Source.faults c.read_source-in-Save.new.source } in
    let a = g.W.Sink.output c.args.sink.now in
    let b = g.W.Sink.output c.answer_saved.new.sink in
    subst (λ o. AnswersOrder (without_threads (Ok o)) old new a b c.answer_saved.result) (sym c.in-Save.is)
    (script_answered _ (λ said. named_answer said.version (own_named c.in-Save.name said)) old new a b _ _ c.in_ok-script-in-Save.ensures c.answer_saved.ensures)

pub returns-in_err-file-in-Load : goal.returns-in_err-file-in-Load
returns-in_err-file-in-Load g c =
    let old : Input = record { left = g.R.Source.left c.args.source.now; faults = g.R.Source.faults c.args.source.now } in
    let new : Input = record { left = g.R.Source.left c.read_input-in-Load.new.source; faults = g.R.Source.faults c.read_input-in-Load.new.source } in
    let a = g.W.Sink.output c.args.sink.now in
    subst (λ o. AnswersOrder (without_threads (Ok o)) old new a a c.from_residual-in_err-file-in-Load.result) (sym c.in-Load.is)
    (passed (AnswersOrder (Ok (order.Load c.in-Load.time)) old new a a) c.from_residual-in_err-file-in-Load.result _ c.from_residual-in_err-file-in-Load.ensures.1
    (stopped_reading _ (λ bytes x. IsLoadAnswer c.in-Load.time bytes x) old new a _ (λ bytes line kind no. absurd no) c.in_err-file-in-Load.ensures))

pub returns-in_ok-file-in-Load : goal.returns-in_ok-file-in-Load
returns-in_ok-file-in-Load g c =
    let old : Input = record { left = g.R.Source.left c.args.source.now; faults = g.R.Source.faults c.args.source.now } in
    let new : Input = record { left = g.R.Source.left c.read_input-in-Load.new.source; faults = g.R.Source.faults c.read_input-in-Load.new.source } in
    let a = g.W.Sink.output c.args.sink.now in
    let b = g.W.Sink.output c.answer_loaded.new.sink in
    subst (λ o. AnswersOrder (without_threads (Ok o)) old new a b c.answer_loaded.result) (sym c.in-Load.is)
    (answered_bytes _ (λ bytes x. IsLoadAnswer c.in-Load.time bytes x) old new a b _ _ c.deref-in-Load.result.now c.in_ok-file-in-Load.ensures c.answer_loaded.ensures
    (λ bytes told. subst (λ l. SameVerdict l bytes) (sym c.deref-in-Load.ensures.value) told) (same_load c.in-Load.time))

pub returns-in_err-bytes-in-Late : goal.returns-in_err-bytes-in-Late
returns-in_err-bytes-in-Late g c =
    let old : Input = record { left = g.R.Source.left c.args.source.now; faults = g.R.Source.faults c.args.source.now } in
    let new : Input = record { left = g.R.Source.left c.read_input-in-Late.new.source; faults = g.R.Source.faults c.read_input-in-Late.new.source } in
    let a = g.W.Sink.output c.args.sink.now in
    subst (λ o. AnswersOrder (without_threads (Ok o)) old new a a c.from_residual-in_err-bytes-in-Late.result) (sym c.in-Late.is)
    (passed (AnswersOrder (Ok order.Late) old new a a) c.from_residual-in_err-bytes-in-Late.result _ c.from_residual-in_err-bytes-in-Late.ensures.1
    (stopped_reading _ (λ bytes x. x ≡ of_script (λ said. text_answer (late_text said)) (late_of bytes)) old new a _
    (λ bytes line kind no. absurd no) c.in_err-bytes-in-Late.ensures))

pub returns-in_ok-bytes-in-Late : goal.returns-in_ok-bytes-in-Late
returns-in_ok-bytes-in-Late g c =
    let old : Input = record { left = g.R.Source.left c.args.source.now; faults = g.R.Source.faults c.args.source.now } in
    let new : Input = record { left = g.R.Source.left c.read_input-in-Late.new.source; faults = g.R.Source.faults c.read_input-in-Late.new.source } in
    let a = g.W.Sink.output c.args.sink.now in
    let b = g.W.Sink.output c.answer_late.new.sink in
    subst (λ o. AnswersOrder (without_threads (Ok o)) old new a b c.answer_late.result) (sym c.in-Late.is)
    (answered_bytes _ (λ bytes x. x ≡ of_script (λ said. text_answer (late_text said)) (late_of bytes)) old new a b _ _
    c.deref-in-Late.result.now c.in_ok-bytes-in-Late.ensures c.answer_late.ensures
    (λ bytes told. subst (λ l. SameVerdict l bytes) (sym c.deref-in-Late.ensures.value) told) (same_late (of_script (λ said. text_answer (late_text said)))))
