use Rattle.std.proofs.Common.{◌≡◌, ◌+◌, ◌*◌, ◌/◌, ◌≤◌, ◌++◌, length, flat_map, sum_by}
use Rattle.dym_base.specs.Lines.{lines_of}
use Rattle.dym_script.proofs.read_ahead.cut_lines.Given as goal

abbrev pub invariant-loop-rest : goal.invariant-loop-rest
invariant-loop-rest l = record {
  lines : flat_map (λ part. lines_of part.now) l.parts.items ++ lines_of l.rest ≡ lines_of l.text;
  short : sum_by (λ part. length part.now) l.parts.items + length l.rest ≡ length l.text;
  few : length l.parts.items * (length l.text / l.count + 1) + length l.rest ≤ length l.text;
}

abbrev pub decreases-loop-rest : goal.decreases-loop-rest
decreases-loop-rest l = length l.rest
