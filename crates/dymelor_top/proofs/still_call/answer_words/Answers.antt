use Rattle.std.proofs.Common.{map, string_bytes, Err, IfOk, sym, subst}
use Rattle.dym_words.proofs.Within.{orders_are_within}
use Rattle.dym_words.specs.Laws.{IsWithin}
use Rattle.dymelor_top.specs.Calls.{AnswersOrder}
use Rattle.dymelor_top.specs.Headline.{Input, without_threads}
use Rattle.dymelor_top.specs.declared.stop.Stop.TheVariants as stop
use Rattle.dymelor_top.proofs.Answered.{no_order}
use Rattle.dymelor_top.proofs.SourceReads.{passed}
use Rattle.dymelor_top.proofs.still_call.answer_words.Goals as goal

pub returns-in_err-order : goal.returns-in_err-order
returns-in_err-order g c =
    let old : Input = record { left = g.R.Source.left c.args.source.now; faults = g.R.Source.faults c.args.source.now } in
    let a = g.W.Sink.output c.args.sink.now in
    subst (λ o. AnswersOrder (without_threads o) old old a a c.from_residual.result) c.in_err-order.ensures
    (passed (AnswersOrder (Err (record {})) old old a a) c.from_residual.result stop.Usage c.from_residual.ensures.1 (no_order old a))

pub answer_order-requires-clause-within : goal.answer_order-requires-clause-within
answer_order-requires-clause-within g c =
    subst (λ r. IfOk r IsWithin) (sym c.in_ok-order.ensures) (orders_are_within (map string_bytes c.args.words.now))

pub returns : goal.returns
returns g c =
    let old : Input = record { left = g.R.Source.left c.args.source.now; faults = g.R.Source.faults c.args.source.now } in
    let new : Input = record { left = g.R.Source.left c.answer_order.new.source; faults = g.R.Source.faults c.answer_order.new.source } in
    subst (λ o. AnswersOrder (without_threads o) old new (g.W.Sink.output c.args.sink.now) (g.W.Sink.output c.answer_order.new.sink) c.answer_order.result)
    c.in_ok-order.ensures c.answer_order.ensures
