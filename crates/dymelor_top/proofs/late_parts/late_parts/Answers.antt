use Rattle.std.proofs.Common.{◌<◌, All, length, subst, arith}
use Rattle.std.proofs.lemmas.List.Elements.{All-head, All-tail}
use Rattle.dym_script.specs.declared.late_script.LateLine.{LateLine}
use Rattle.dymelor_top.proofs.LatePartFacts.{many_parts, parts_more}
use Rattle.dymelor_top.proofs.Yielded.{one_more}
use Rattle.dymelor_top.proofs.late_parts.late_parts.Goals as goal

pub loop-line-preserved : goal.loop-line-preserved
loop-line-preserved c =
    let objects = c.args.script.objects.items in
    let line = c.in-Some.line in
    let others = c.next.new.self.rest.items in
    let cut = c.in-Some.ensures.steps.0 in
    let rest = subst (All (λ (l : LateLine). l.object < length objects)) cut c.loop-line.invariant.within in
    let declared = All-head (λ (l : LateLine). l.object < length objects) line others rest in
    let many = many_parts c.loop-line.parts.items objects c.loop-line.yielded c.loop-line.invariant.parts in
    let inside : line.object < length c.loop-line.parts.items = omega (arith, declared, many) in
    record {
      parts = parts_more c.loop-line.parts.items objects line c.index_mut.result.now c.keep.new.part c.loop-line.yielded inside c.index_mut.ensures.value
          c.keep.ensures.decl c.in_ok-keep.ensures.acts c.loop-line.invariant.parts;
      lines = one_more c.args.script.lines.items c.loop-line.yielded _ others line c.loop-line.invariant.lines cut;
      within = All-tail (λ (l : LateLine). l.object < length objects) line others rest;
    }
