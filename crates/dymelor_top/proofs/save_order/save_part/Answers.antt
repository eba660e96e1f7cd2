use Rattle.std.proofs.Common.{◌≡◌, subst, ap, ◌∙◌}
use Rattle.dym_base.specs.declared.command.Version.{Version}
use Rattle.dym_object.specs.Meaning.{ObjectMeaning}
use Rattle.dym_script.specs.OwnCommands.{own_of}
use Rattle.dymelor_top.specs.Answers.{file_answer}
use Rattle.dymelor_top.specs.Calls.{AnswersRead}
use Rattle.dymelor_top.specs.Checkpoints.{own_file}
use Rattle.dymelor_top.proofs.save_order.save_part.Goals as goal

pub returns : goal.returns
returns g c =
    let version : ObjectMeaning → Version = λ o. o.heap.version in
    let same : c.lend-object.result.heap.version ≡ c.args.version =
    ap version (c.lend-object.ensures.lent ∙ c.into_object.ensures) ∙ c.run_all-ran.ensures.version ∙ ap version c.new-turn.ensures
    ∙ c.in_ok-object.ensures.version in
    subst
    (λ (v : Version). AnswersRead (λ x. x ≡ file_answer (own_file v (own_of c.args.part.now))) (g.W.Sink.output c.args.sink.now)
    (g.W.Sink.output c.save_run-saved.new.sink) c.save_run-saved.result)
    same c.save_run-saved.ensures.answered
