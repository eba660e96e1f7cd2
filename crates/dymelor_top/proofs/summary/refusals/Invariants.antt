use Rattle.std.proofs.Common.{◌≡◌, ◌≤◌, drop}
use Rattle.dymelor_top.proofs.SummaryFacts.{Refusing}
use Rattle.dymelor_top.proofs.summary.refusals.Given as goal

abbrev pub invariant-loop-k : goal.invariant-loop-k
invariant-loop-k l = record {
  refusing : Refusing l.initial.turn.object l.turn.object l.commands (drop l.k l.commands) l.refused;
  within : l.refused ≤ l.k;
  count : l.turn.object.ran ≡ l.k;
}
