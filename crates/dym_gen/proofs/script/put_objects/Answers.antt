-- One declaration more stands on the page.
use Rattle.std.proofs.Common.{◌+◌, ◌*◌, ◌≤◌, ◌++◌, ap, sym, ◌∙◌, arith}
use Rattle.dym_gen.specs.Scripts.{object_line}
use Rattle.dym_gen.proofs.Lines.{objects_more}
use Rattle.dym_gen.proofs.script.put_objects.Goals as goal

pub loop-i-preserved : goal.loop-i-preserved
loop-i-preserved c =
    let end : c.put_object-end.result ≤ 40 * (c.loop-i.i + 1) = omega (arith, c.loop-i.invariant.0, c.put_object-end.ensures.short) in
    (end, c.put_object-end.ensures.text ∙ ap (λ l. l ++ object_line (c.args.first + c.loop-i.i)) c.loop-i.invariant.1 ∙ sym (objects_more c.args.first c.loop-i.i))
