use Rattle.std.proofs.Common.{◌≡◌, ◌+◌, ◌≤◌, ◌++◌, All, length, count_by}
use Rattle.dym_base.specs.declared.limits.TheConstants.{MOST_LATE_EVENTS}
use Rattle.dym_script.specs.Late.{is_event}
use Rattle.dym_script.specs.LateArrivals.{MayAct}
use Rattle.dymelor_top.specs.LateReport.{outcome_of}
use Rattle.dymelor_top.specs.LateParts.{TookIn, arrivals_by}
use Rattle.dymelor_top.proofs.late_run.take_all.Given as goal

abbrev pub invariant-loop-act : goal.invariant-loop-act
invariant-loop-act l = record {
  took : TookIn l.initial.late l.late (arrivals_by l.yielded);
  outcome : l.outcome.items ≡ outcome_of (arrivals_by l.yielded);
  acts : l.fn.acts.items ≡ l.yielded ++ l.act-iterator.rest.items;
  may : All MayAct l.act-iterator.rest.items;
  few : length l.late.events + count_by is_event l.act-iterator.rest.items ≤ MOST_LATE_EVENTS;
}
