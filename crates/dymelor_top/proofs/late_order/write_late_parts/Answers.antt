use Rattle.std.proofs.Common.{◌≡◌, All, subst}
use Rattle.std.proofs.lemmas.List.Elements.{All-tail}
use Rattle.dym_io.specs.Laws.{cause_told_later}
use Rattle.dym_report.specs.declared.write_fail.WriteFail.TheVariants as fail
use Rattle.dymelor_top.specs.LateParts.{IsLatePart, late_part_text}
use Rattle.dym_wave.proofs.Passing.{writes_or_passed}
use Rattle.dymelor_top.proofs.Yielded.{one_more, text_more, text_front}
use Rattle.dymelor_top.proofs.late_order.write_late_parts.Goals as goal

pub loop-part-preserved : goal.loop-part-preserved
loop-part-preserved g c =
    let start = g.W.Sink.output c.args.sink.now in
    let before = g.W.Sink.output c.loop-part.sink in
    let after = g.W.Sink.output c.write_late_part.new.sink in
    let part = c.in-Some.part in
    let others = c.next.new.self.rest.items in
    let cut = c.in-Some.ensures.steps.0 in
    record {
      written = text_more late_part_text c.loop-part.yielded part start before after c.loop-part.invariant.written c.in_ok-write_late_part.ensures;
      parts = one_more c.args.parts.items c.loop-part.yielded _ others part c.loop-part.invariant.parts cut;
      run = All-tail IsLatePart part others (subst (All IsLatePart) cut c.loop-part.invariant.run);
    }

pub returns-in_err-write_late_part : goal.returns-in_err-write_late_part
returns-in_err-write_late_part g c =
    let start = g.W.Sink.output c.args.sink.now in
    let before = g.W.Sink.output c.loop-part.sink in
    let after = g.W.Sink.output c.write_late_part.new.sink in
    let front = text_front late_part_text c.args.parts.items c.loop-part.yielded _ c.next.new.self.rest.items c.in-Some.part start before after
    c.loop-part.invariant.parts c.in-Some.ensures.steps.0 c.loop-part.invariant.written c.in_err-write_late_part.ensures.0 in
    writes_or_passed (λ failed. failed ≡ fail.Sink) start after _ _ c.in_err-write_late_part.field-0.0 c.from_residual.ensures.1 front
    (cause_told_later _ start before after _ c.loop-part.invariant.written c.in_err-write_late_part.ensures.1)
