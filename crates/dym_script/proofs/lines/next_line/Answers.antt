use Rattle.std.proofs.Common.{arith, add-one}
use Rattle.dym_script.proofs.WordCuts.{lines_of_cut, lines_of_last, take_rest, not_true}
use Rattle.dym_script.proofs.lines.next_line.Goals as goal

pub returns-in-Some-clause-cut : goal.returns-in-Some-clause-cut
returns-in-Some-clause-cut c =
    let found = c.in-Some.ensures in
    let cut = lines_of_cut c.args.text.now c.in-Some.end found.0.high (λ k below. not_true (found.0.before k (omega arith) below)) found.1 in rw (add-one, take_rest) cut

pub returns-in-None-clause-cut : goal.returns-in-None-clause-cut
returns-in-None-clause-cut c = lines_of_last c.args.text.now (grind arith) (λ k below. not_true (c.in-None.ensures k (omega arith) below))
