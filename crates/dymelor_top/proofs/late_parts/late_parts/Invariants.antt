use Rattle.std.proofs.Common.{◌≡◌, ◌<◌, ◌++◌, All, length}
use Rattle.dymelor_top.specs.LateParts.{AreLateParts}
use Rattle.dymelor_top.proofs.late_parts.late_parts.Given as goal

abbrev pub invariant-loop-line : goal.invariant-loop-line
invariant-loop-line l = record {
  parts : AreLateParts l.parts.items l.fn.script.objects.items l.yielded;
  lines : l.fn.script.lines.items ≡ l.yielded ++ l.line-iterator.rest.items;
  within : All (λ line. line.object < length l.fn.script.objects.items) l.line-iterator.rest.items;
}
