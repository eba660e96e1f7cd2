use Rattle.std.proofs.Common.{◌≡◌, ℕ, List}
use Rattle.dym_io.specs.Laws.{cause_told_later}
use Rattle.dym_script.specs.declared.parts.Part.{Part}
use Rattle.dym_report.specs.declared.write_fail.WriteFail.TheVariants as fail
use Rattle.dym_script.specs.OwnCommands.{own_of}
use Rattle.dym_wave.specs.Reports.{part_text}
use Rattle.dym_wave.proofs.Passing.{writes_or_passed}
use Rattle.dymelor_top.proofs.PassedOn.{each_front_item}
use Rattle.dymelor_top.proofs.plain_order.write_parts.Goals as goal

pub returns-in_err-write_part : goal.returns-in_err-write_part
returns-in_err-write_part g c =
    let text : Part → List ℕ = λ part. part_text c.args.version (own_of part) in
    let start = g.W.Sink.output c.args.sink.now in
    let before = g.W.Sink.output c.loop-part.sink in
    let after = g.W.Sink.output c.write_part.new.sink in
    writes_or_passed (λ failed. failed ≡ fail.Sink) start after _ _ c.in_err-write_part.field-0.0 c.from_residual.ensures.1
    (each_front_item text c.args.parts.now c.loop-part.part-index c.part-item.result start before after c.loop-part-test.true c.part-item.is c.loop-part.invariant
    c.in_err-write_part.ensures.0)
    (cause_told_later _ start before after _ c.loop-part.invariant c.in_err-write_part.ensures.1)
