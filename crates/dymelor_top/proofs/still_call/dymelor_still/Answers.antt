use Rattle.std.proofs.Common.{map, string_bytes}
use Rattle.dym_words.specs.Orders.{order}
use Rattle.dymelor_top.specs.Headline.{Input, without_threads}
use Rattle.dymelor_top.proofs.Served.{headline}
use Rattle.dymelor_top.proofs.still_call.dymelor_still.Goals as goal

pub returns : goal.returns
returns g c =
    let old : Input = record { left = g.R.Source.left c.args.source.now; faults = g.R.Source.faults c.args.source.now } in
    let new : Input = record { left = g.R.Source.left c.answer_words-answered.new.source; faults = g.R.Source.faults c.answer_words-answered.new.source } in
    headline (without_threads (order (map string_bytes c.args.words.now))) old new (g.W.Sink.output c.args.sink.now) (g.W.Sink.output c.answer_words-answered.new.sink)
    (g.W.Sink.output c.finish.new.sink) c.answer_words-answered.result c.answer_words-answered.ensures c.finish.result c.finish.ensures
