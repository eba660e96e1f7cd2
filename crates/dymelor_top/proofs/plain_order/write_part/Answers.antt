use Rattle.std.proofs.Common.{◌≡◌, subst, ap, ◌∙◌}
use Rattle.dym_object.specs.Meaning.{ObjectMeaning}
use Rattle.dym_io.specs.Sink.{WritesOr}
use Rattle.dym_report.specs.declared.write_fail.WriteFail.TheVariants as fail
use Rattle.dym_script.specs.OwnCommands.{own_of}
use Rattle.dym_wave.specs.Reports.{part_text}
use Rattle.dymelor_top.proofs.plain_order.write_part.Goals as goal

pub returns : goal.returns
returns g c =
    let before = g.W.Sink.output c.args.sink.now in
    let after = g.W.Sink.output c.write_run-written.new.sink in
    subst (λ v. WritesOr (λ failed. failed ≡ fail.Sink) before after (part_text v (own_of c.args.part.now)) c.write_run-written.result)
    (ap (λ (o : ObjectMeaning). o.heap.version) c.new-turn.ensures ∙ c.in_ok-object.ensures.version) c.write_run-written.ensures
