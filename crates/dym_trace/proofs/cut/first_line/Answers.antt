use Rattle.dym_trace.proofs.Cuts.{first_end, no_end, nothing_left}
use Rattle.dym_trace.proofs.cut.first_line.Goals as goal

pub returns-in-Some-clause-lines : goal.returns-in-Some-clause-lines
returns-in-Some-clause-lines c = first_end c.in-Some.parts.0.now c.in-Some.parts.1.now c.args.bytes.now c.in-Some.ensures.0 c.in-Some.ensures.1

pub returns-in-None-clause-lines : goal.returns-in-None-clause-lines
returns-in-None-clause-lines c = rw (nothing_left c.args.bytes.now) (no_end c.args.bytes.now c.requires c.in-None.ensures)
