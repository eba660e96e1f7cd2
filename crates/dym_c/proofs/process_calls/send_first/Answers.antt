use Rattle.std.proofs.Common.{refl, arith}
use Rattle.dym_c.proofs.process_calls.send_first.Goals as goal

pub returns-in-Ok : goal.returns-in-Ok
returns-in-Ok c = record {
  kept = λ _. c.in-Ok.ensures.kept;
  no_process = (λ e. absurd (omega (arith, e)), λ many. absurd (omega (arith, many, c.if-draft-start.false)));
  others = λ no. absurd (no refl);
  rest = c.keep.ensures.rest;
}

pub returns-in-Err : goal.returns-in-Err
returns-in-Err c = record {
  kept = λ e. absurd (omega (arith, e));
  no_process = (λ e. absurd (omega (arith, e)), λ many. absurd (omega (arith, many, c.if-draft-start.false)));
  others = λ _. c.in-Err.ensures.unchanged;
  rest = c.keep.ensures.rest;
}
