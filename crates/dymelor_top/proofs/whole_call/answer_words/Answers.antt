use Rattle.std.proofs.Common.{◌≡◌, List, ℕ, map, string_bytes, Ok, IfOk, sym, ap, subst, ◌∙◌}
use Rattle.dym_script.specs.Scripts.{ScriptMeaning, script_of}
use Rattle.dym_words.proofs.Within.{orders_are_within}
use Rattle.dym_words.specs.Laws.{IsWithin}
use Rattle.dymelor_top.specs.Answers.{in_waves, input_bytes, is_read, of_script}
use Rattle.dymelor_top.specs.Calls.{AnswersInput, AnswersOrder, HadOrder}
use Rattle.dymelor_top.specs.Headline.{Input}
use Rattle.dymelor_top.proofs.WaveFacts.{run_text_is}
use Rattle.dymelor_top.proofs.whole_call.answer_words.Goals as goal

pub answer_in_waves-requires-clause-input : goal.answer_in_waves-requires-clause-input
answer_in_waves-requires-clause-input g c κs within =
    let fit : IsWithin c.in_ok-order.order = subst (λ r. IfOk r IsWithin) (sym c.in_ok-order.ensures) (orders_are_within (map string_bytes c.args.words.now)) in
    (subst IsWithin c.in-Run.is fit).1

pub answer_in_waves-requires-clause-shape : goal.answer_in_waves-requires-clause-shape
answer_in_waves-requires-clause-shape g c κs within =
    let fit : IsWithin c.in_ok-order.order = subst (λ r. IfOk r IsWithin) (sym c.in_ok-order.ensures) (orders_are_within (map string_bytes c.args.words.now)) in
    (subst IsWithin c.in-Run.is fit).0

pub answer_in_waves-requires-in-Views-clause-shape : goal.answer_in_waves-requires-in-Views-clause-shape
answer_in_waves-requires-in-Views-clause-shape g c κs within =
    let fit : IsWithin c.in_ok-order.order = subst (λ r. IfOk r IsWithin) (sym c.in_ok-order.ensures) (orders_are_within (map string_bytes c.args.words.now)) in
    subst IsWithin c.in-Views.is fit

pub answer_order-requires : goal.answer_order-requires
answer_order-requires g c = record {
  goes_on = c.requires;
  within = subst (λ r. IfOk r IsWithin) (sym c.in_ok-order.ensures) (orders_are_within (map string_bytes c.args.words.now));
}

pub returns-in-Run : goal.returns-in-Run
returns-in-Run g c =
    let run = c.in-Run in
    let old : Input = record { left = g.S.Source.left c.args.source.now; faults = g.S.Source.faults c.args.source.now } in
    let new : Input = record { left = g.S.Source.left c.answer_in_waves.new.source; faults = g.S.Source.faults c.answer_in_waves.new.source } in
    let a = g.W.Sink.output c.args.sink.now in
    let b = g.W.Sink.output c.answer_in_waves.new.sink in
    let r = c.answer_in_waves.result in
    subst (λ o. AnswersOrder o old new a b r) (sym (ap Ok run.is) ∙ c.in_ok-order.ensures)
    (subst (λ (f : ScriptMeaning → List ℕ). AnswersInput HadOrder (is_read run.input)
    (λ bytes x. x ≡ of_script (in_waves run.segments f) (script_of (input_bytes run.input bytes))) old new a b r)
    (run_text_is run.summary c.run_text-text.result c.run_text-text.ensures) c.answer_in_waves.ensures)

pub returns-in-Views : goal.returns-in-Views
returns-in-Views g c =
    let views = c.in-Views in
    let old : Input = record { left = g.S.Source.left c.args.source.now; faults = g.S.Source.faults c.args.source.now } in
    let new : Input = record { left = g.S.Source.left c.answer_in_waves-in-Views.new.source; faults = g.S.Source.faults c.answer_in_waves-in-Views.new.source } in
    subst (λ o. AnswersOrder o old new (g.W.Sink.output c.args.sink.now) (g.W.Sink.output c.answer_in_waves-in-Views.new.sink) c.answer_in_waves-in-Views.result)
    (sym (ap Ok views.is) ∙ c.in_ok-order.ensures) c.answer_in_waves-in-Views.ensures
