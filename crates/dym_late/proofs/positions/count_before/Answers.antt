use Rattle.std.proofs.Common.{sym, ap, ◌∙◌}
use Rattle.dym_base.specs.LateRun.{events_before}
use Rattle.dym_late.specs.Timelines.{late_events}
use Rattle.dym_late.proofs.Counts.{before_none}
use Rattle.dym_late.proofs.positions.count_before.Goals as goal

pub returns-then-time-eq0-clause-count : goal.returns-then-time-eq0-clause-count
returns-then-time-eq0-clause-count c =
    sym (ap (λ t. events_before t (late_events c.args.events.now)) c.if-time-eq0.true ∙ before_none (late_events c.args.events.now))
