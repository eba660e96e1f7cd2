use Rattle.std.proofs.Common.{refl, arith}
use Rattle.dym_c.proofs.Exports.{not_both}
use Rattle.dym_c.proofs.process_calls.take.Goals as goal

pub returns-in-Ok-clause-taken : goal.returns-in-Ok-clause-taken
returns-in-Ok-clause-taken c =
    let told = c.in-Ok.ensures in
    record {
      kept = λ o b past h. told.kept b past o h;
      taken = λ _. told.taken;
      undoes = λ _. told.undone;
      reached = λ _. c.take.ensures.reached;
      told = λ _. omega (arith, told.fewer, c.date.ensures, c.date-before.ensures);
      posted = λ _. told.posted;
      own = λ _. told.own;
      late = λ _. told.late;
      was_open = (λ e. absurd (omega (arith, e)), λ is. absurd (not_both c.take.result _ _ c.in-Ok.is (c.take.ensures.open.1 is)));
      elsewhere = λ e. absurd (omega (arith, e));
      committed = λ e. absurd (omega (arith, e));
      same = c.take.ensures.same;
      rest = c.take.ensures.rest;
      unchanged = λ no. absurd (no refl);
    }
